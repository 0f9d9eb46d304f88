-- The page of the counts.
use Rattle.std.specs.Prelude.{ℕ, List, ◌++◌, codes, decimal}
use Rattle.std.proofs.Common.{Bor}
use Rattle.std.specs.List.{flat_map}
use Rattle.gn_rules.specs.declared.statistics.Counter.{Counter}
use Rattle.gn_rules.specs.Statistics.{counters}
use Rattle.gn_numbers.specs.Names.{counter_name}
use Rattle.gn_metrics.specs.Counted.{connections_of, count_at, in_flight_of, steps_of}
use Rattle.gn_metrics.specs.declared.look.Look.{Look}
use Rattle.gn_metrics.specs.declared.page.Row.{Row}

-- the end of the line of a number that only rises
abbrev pub counter_kind : List ℕ
counter_kind = codes " counter\n"

-- the end of that of one that rises and falls
abbrev pub gauge_kind : List ℕ
gauge_kind = codes " gauge\n"

-- the name of a number as Prometheus knows it
abbrev pub full_name : List ℕ → List ℕ
full_name name = codes "tineflax_" ++ name

-- what a number says
abbrev pub help_text : List ℕ → List ℕ → List ℕ
help_text name help = codes "# HELP " ++ full_name name ++ codes " " ++ help

-- its kind, below that
abbrev pub type_text : List ℕ → List ℕ → List ℕ
type_text name kind = codes "\n# TYPE " ++ full_name name ++ kind

-- its value
abbrev pub sample_text : List ℕ → ℕ → List ℕ
sample_text name value = full_name name ++ codes " " ++ decimal value ++ codes "\n"

-- its three lines
abbrev pub number_text : List ℕ → List ℕ → List ℕ → ℕ → List ℕ
number_text name kind help value = help_text name help ++ type_text name kind ++ sample_text name value

-- the name of a row
abbrev pub row_name : Row → List ℕ
row_name row = row.name.now ++ row.ending.now

-- its three lines
abbrev pub row_text : Row → List ℕ
row_text row = number_text (row_name row) row.kind.now row.help.now row.value

-- pieces of a text, in order
abbrev pub pieces_text : List (Bor (List ℕ)) → List ℕ
pieces_text pieces = flat_map (λ piece. piece.now) pieces

-- those of some rows, in order
abbrev pub rows_text : List Row → List ℕ
rows_text rows = flat_map row_text rows

-- what is said of each counter
abbrev pub steps_help : List ℕ
steps_help = codes "Steps of the history with this reply or reason to drop, as gn show --stats counts them."

-- a counter's number, by its name
unfoldable pub count_text : Look → Counter → List ℕ
count_text look counter = number_text (counter_name counter ++ codes "_total") counter_kind steps_help (count_at look counter)

-- those of some counters, in order
abbrev pub counts_text : Look → List Counter → List ℕ
counts_text look some = flat_map (count_text look) some

-- what was written, made and met
abbrev pub totals_text : Look → ℕ → List ℕ
totals_text look steps =
    number_text (codes "steps_total") counter_kind (codes "Steps of the history that were written.") steps
    ++ number_text (codes "steps_made_total") counter_kind
    (codes "Steps that the threads of links and workers have made, written or not.") look.made
    ++ number_text (codes "history_bytes_total") counter_kind
    (codes "Bytes of the history that were written, with its comments.") look.bytes
    ++ number_text (codes "links_total") counter_kind (codes "Links whose peer has come, called or accepted.") look.links

-- how the run stands
abbrev pub gauges_text : Look → ℕ → ℕ → List ℕ
gauges_text look connections in_flight =
    number_text (codes "connections") gauge_kind
    (codes "Live connections, by the history written so far.") connections
    ++ number_text (codes "in_flight") gauge_kind (codes "Descriptors admitted and not routed yet, by the history written so far.") in_flight
    ++ number_text (codes "steps_limit") gauge_kind (codes "The most steps that the history may have.") look.most
    ++ number_text (codes "start_time_seconds") gauge_kind (codes "When the run began, in seconds since 1970.") look.since

-- the page of what was counted at a look
abbrev pub page_text : Look → List ℕ
page_text look =
    counts_text look counters ++ totals_text look (steps_of look)
    ++ gauges_text look (connections_of look) (in_flight_of look)
