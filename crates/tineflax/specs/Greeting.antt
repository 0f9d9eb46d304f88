-- The definitions of the greeting and of a link's role in it.

pub use Rattle.gn_shake.specs.Greeting
pub use Rattle.gn_shake.specs.Shaking
