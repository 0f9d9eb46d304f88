-- The definitions of one line of text.

pub use Rattle.gn_text.specs.Addresses
pub use Rattle.gn_text.specs.Bytes
pub use Rattle.gn_text.specs.Faults
pub use Rattle.gn_text.specs.Header
pub use Rattle.gn_text.specs.Lines
pub use Rattle.gn_text.specs.Links
pub use Rattle.gn_numbers.specs.Names
pub use Rattle.gn_numbers.specs.Numbers
pub use Rattle.gn_numbers.specs.Versions
pub use Rattle.gn_text.specs.Parsed
pub use Rattle.gn_text.specs.Refusals
pub use Rattle.gn_text.specs.Settings
pub use Rattle.gn_text.specs.Statistics
pub use Rattle.gn_text.specs.Steps
