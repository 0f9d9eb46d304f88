-- The definitions of payloads.

pub use Rattle.gn_payload.specs.Encoding
pub use Rattle.gn_payload.specs.Fields
pub use Rattle.gn_payload.specs.Grammar
pub use Rattle.gn_payload.specs.Reading
pub use Rattle.gn_payload.specs.Refusals
pub use Rattle.gn_payload.specs.Views
