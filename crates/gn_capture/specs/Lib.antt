-- What is promised: contracts of public functions rest on it.
pub mod CaptureLines
pub mod Captures
pub mod Events
pub mod FirstFaults
pub mod Histories
pub mod Outcomes
pub mod Packets
pub mod Replies
pub mod Requests
pub mod RoundTrip
pub mod Steps
-- Words of the proofs.
pub mod Known
pub mod Originated
