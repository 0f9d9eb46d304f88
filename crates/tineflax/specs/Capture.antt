-- The definitions of captures and histories as texts.

pub use Rattle.gn_capture.specs.CaptureLines
pub use Rattle.gn_capture.specs.Captures
pub use Rattle.gn_capture.specs.Events
pub use Rattle.gn_capture.specs.FirstFaults
pub use Rattle.gn_capture.specs.Histories
pub use Rattle.gn_capture.specs.Packets
pub use Rattle.gn_capture.specs.Replies
pub use Rattle.gn_capture.specs.Requests
pub use Rattle.gn_capture.specs.RoundTrip
pub use Rattle.gn_capture.specs.Steps
