-- The lines of a report: what became of each link of a serve.
use Rattle.std.specs.Prelude.{ℕ, List, Option, Some, None, ◌++◌, codes, decimal}
use Rattle.std.specs.Net.Text.{socket_text}
use Rattle.std.specs.declared.net.socket_addr.SocketAddr.{SocketAddr}
use Rattle.gn_actors.specs.Tallies.{busy, offered, taken}
use Rattle.gn_actors.specs.declared.tally.Tally.{Tally}
use Rattle.gn_bodies.specs.declared.ends.ReaderEnd.{ReaderEnd}
use Rattle.gn_bodies.specs.declared.ends.ReaderEnd.TheVariants as reader
use Rattle.gn_bodies.specs.declared.ends.WriterEnd.{WriterEnd}
use Rattle.gn_bodies.specs.declared.ends.WriterEnd.TheVariants as writer
use Rattle.gn_report.specs.declared.account.LinkAccount.{LinkAccount}
use Rattle.gn_rules.specs.declared.receipt.Receipt.{Receipt}
use Rattle.gn_program.specs.declared.reports.Ends.{Ends}
use Rattle.gn_program.specs.declared.reports.EventCounts.{EventCounts}
use Rattle.gn_program.specs.declared.reports.LinkLine.{LinkLine}
use Rattle.gn_program.specs.declared.reports.Named.{Named}

-- what the line of a link counts: what its reader brought, and what its writer took
abbrev pub line_counts : {A : Type 0} → List (Receipt A) → List (Receipt A) → EventCounts
line_counts read written = record { offered = offered read; busy = busy read; taken = taken written }

-- what the line of this link counts, by the receipts of both
abbrev pub counts_of : {Rd W A : Type 0} → LinkAccount Rd W A → EventCounts
counts_of link = line_counts link.reader_receipts.items link.writer_receipts.items

-- the same, by the tallies of both
abbrev pub tallied : Tally → Tally → EventCounts
tallied read written = record { offered = read.offered; busy = read.busy; taken = written.taken }

-- a connection's number; `-`, where there is none
abbrev pub conn_text : Option ℕ → List ℕ
conn_text (Some conn) = decimal conn
conn_text None = codes "-"

-- a peer's address; `-`, where it isn't known
abbrev pub peer_text : Option SocketAddr → List ℕ
peer_text (Some peer) = socket_text peer
peer_text None = codes "-"

-- which link it is, its peer and its connection
abbrev pub named_text : Named → List ℕ
named_text named =
    codes "link " ++ decimal named.link ++ codes " " ++ peer_text named.peer ++ codes " connection "
    ++ conn_text named.conn

-- the word for how a reader ended; `-`, where that isn't known
abbrev pub reader_word : Option ReaderEnd → List ℕ
reader_word (Some reader.Bytes) = codes "bytes"
reader_word (Some (reader.Fault fault)) = codes "fault"
reader_word (Some reader.ReadFailed) = codes "failed"
reader_word (Some reader.Turns) = codes "turns"
reader_word (Some reader.GreetingRefused) = codes "refused"
reader_word (Some reader.GreetingCut) = codes "cut"
reader_word (Some reader.TooMany) = codes "toomany"
reader_word (Some reader.NotLive) = codes "notlive"
reader_word None = codes "-"

-- the word for how a writer ended; `-`, where that isn't known
abbrev pub writer_word : Option WriterEnd → List ℕ
writer_word (Some writer.Drained) = codes "drained"
writer_word (Some writer.WriteFailed) = codes "failed"
writer_word (Some writer.Closed) = codes "closed"
writer_word (Some writer.NeverOpened) = codes "unopened"
writer_word None = codes "-"

-- how a link's two threads ended
abbrev pub ends_text : Ends → List ℕ
ends_text ends = codes "reader " ++ reader_word ends.reader ++ codes " writer " ++ writer_word ends.writer

-- what was counted
abbrev pub counts_text : EventCounts → List ℕ
counts_text counts =
    codes "offered " ++ decimal counts.offered ++ codes " busy " ++ decimal counts.busy ++ codes " taken "
    ++ decimal counts.taken

-- the line of a link
abbrev pub link_text : LinkLine → List ℕ
link_text line =
    named_text line.named ++ codes " " ++ ends_text line.ends ++ codes " " ++ counts_text line.counts ++ codes "\n"
