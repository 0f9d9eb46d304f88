-- The definitions of whole descriptors in a stream.

pub use Rattle.gn_frames.specs.Frames
pub use Rattle.gn_frames.specs.Reassembly
