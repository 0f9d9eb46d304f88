-- The definitions of links over memory and over TCP.

pub use Rattle.gn_links.specs.Halves
pub use Rattle.gn_links.specs.Memory
pub use Rattle.gn_links.specs.Split
pub use Rattle.gn_sockets.specs.TcpHalves
pub use Rattle.gn_tcp.specs.Seen
pub use Rattle.gn_tcp.specs.Tcp
