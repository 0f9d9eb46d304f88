-- The definitions of what is shown of a history.

pub use Rattle.gn_show.specs.Plain
pub use Rattle.gn_show.specs.Shown
pub use Rattle.gn_show.specs.Times
pub use Rattle.gn_show.specs.Values
