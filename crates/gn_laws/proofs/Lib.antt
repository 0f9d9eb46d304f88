pub mod ConnectionLemmas
pub mod CountLemmas
pub mod FittingLemmas
pub mod OwnerLemmas
pub mod PacketLemmas
pub mod ReceiptLemmas
pub mod RunLemmas
pub mod TicketLemmas
