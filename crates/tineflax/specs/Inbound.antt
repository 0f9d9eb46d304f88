-- The definitions of what the bytes that come on a link offer.

pub use Rattle.gn_inbound.specs.Inbound
