-- What a serve does.
use Rattle.std.specs.Prelude.{◌≡◌, ◌⊎◌, ◌||◌, ℕ, Bool, false, true, List, Option, None, Some, codes, is_some, length, IfErr, IfSome, OnOk, Result, option_map}
use Rattle.std.specs.Io.KnownBytes.{Appends}
use Rattle.std.specs.declared.alloc.Global.{Global}
use Rattle.std.specs.declared.net.socket_addr.SocketAddr.{SocketAddr}
use Rattle.clap.specs.Words.{Row}
use Rattle.gn_comments.specs.Rests.{HasWrittenRest, with_all}
use Rattle.gn_comments.specs.Sinks.{HasWrittenBoth, without_comments}
use Rattle.gn_io.specs.Parts.{AppendsPart}
use Rattle.gn_io.specs.Streams.{HasWriteFailed, NoWriteFailed, SinkState, Streams}
use Rattle.gn_load.specs.Any.{AppendsTaken, AppendsTakenPart, IsTakenFault}
use Rattle.gn_load.specs.Journalled.{AppendsSomeLegalPart}
use Rattle.gn_load.specs.declared.serve_fault.ServeFault.{ServeFault}
use Rattle.gn_rules.specs.Settings.{IsMadeOf}
use Rattle.gn_rules.specs.declared.config.Config.{Config}
use Rattle.gn_rules.specs.declared.config.Own.{Own}
use Rattle.gn_service.specs.Ran.{Remembered}
use Rattle.gn_wire.specs.declared.kind.Guid.{Guid}
use Rattle.gn_words.specs.Options.{is_set}
use Rattle.gn_words.specs.declared.servent.Servent.{Servent}
use Rattle.gn_words.specs.declared.servent.Servent.TheVariants.{Given, Random}
use Rattle.gn_program.specs.Answers.{Answers, is_done}
use Rattle.gn_program.specs.Limits.{calls_again, goes_on}
use Rattle.gn_program.specs.Peers.{AreAt}
use Rattle.gn_program.specs.Serve.{AskedServe, config_text, serving_of}
use Rattle.gn_program.specs.declared.serve.Serve.{Serve}
use Rattle.gn_program.specs.declared.serve.Serve.TheVariants.{Config as PrintConfig, Run}

-- a serve that is run, or one whose options are written
abbrev pub serve_by : Bool → AskedServe → Serve
serve_by false serving = Run serving
serve_by true serving = PrintConfig serving

-- what a serve asks for, by the flag `--print-config`, where each value is within its limits
abbrev pub serve_asked : List Row → Option Serve
serve_asked rows = option_map (serve_by (is_set (codes "print-config") rows)) (serving_of rows)

-- an ID is the one that is asked for: the one that is given, or, of a random servent, some sixteen bytes
abbrev pub IsIdOf : Servent → Guid → Type 0
IsIdOf (Given asked) id = id ≡ asked
IsIdOf Random id = length id.0 ≡ 16

-- the own servent of a router that serves, with this ID: it is at the address and on the port that are asked for, and its Pongs say
-- that it shares as much as is asked for
abbrev pub own_served : AskedServe → Guid → Own
own_served serving id =
    record {
      servent = id;
      ip = serving.site.address;
      port = serving.port;
      files = serving.files;
      kbytes = serving.kilobytes;
    }

-- a configuration is that of a router that serves: it has the numbers and the servent that are asked for
abbrev pub IsServing : AskedServe → Config → Type 0
IsServing serving settings =
    (id : Guid) × IsIdOf serving.servent id × IsMadeOf settings serving.numbers (own_served serving id)

-- a run with so many workers is remembered, which writes at most so many packets to a link at once, and known bytes grew by the text of its
-- history. Where so many may call, its links go to the peers of the words, which are called, and to so many that call. Where any number
-- may, its first links go to those peers, in order, as far as there are links; the others called, or go to those peers where these are
-- called again; and its own servent sends Pings where that is asked for. Of one that goes on with a history `IsResumedAccount` alone is said
abbrev pub AppendsAsked : AskedServe → Config → Option (Remembered Global) → Option (List ℕ) → Option (List ℕ) → Type 0
AppendsAsked serving settings remembered old new =
    (called : List SocketAddr) × AreAt serving.peers called × (ran : Remembered Global) × (remembered ≡ Some ran)
    × AppendsTaken Global (goes_on serving) (calls_again serving) (is_some serving.ping) serving.batch settings called serving.accept serving.workers ran old new

-- such a run is remembered, and known bytes grew by a prefix of that text
abbrev pub AppendsAskedPart : AskedServe → Config → Option (Remembered Global) → Option (List ℕ) → Option (List ℕ) → Type 0
AppendsAskedPart serving settings remembered old new =
    (called : List SocketAddr) × AreAt serving.peers called
    × AppendsTakenPart Global (goes_on serving) (calls_again serving) (is_some serving.ping) serving.batch settings called serving.accept serving.workers remembered old new

-- what serve answers: no write failed, and the history of the run that is remembered was written, a run as `AppendsAsked` says; or it
-- stopped, and what was written then is a prefix of the text of a history that is legal, and of the run that is remembered, where one is
pub record IsServeAnswer (serving : AskedServe) (sink sink_new : SinkState) (answer : Result (Unit {0}) ServeFault)
    (remembered : Option (Remembered Global)) : Type 0 where
  pub settings : Config
  pub configured : IsServing serving settings
  pub unfailed : OnOk answer (NoWriteFailed sink sink_new)
  pub written : OnOk answer (AppendsAsked serving settings remembered sink.written sink_new.written)
  pub stopped : IfErr answer (λ _. AppendsSomeLegalPart Global settings sink.written sink_new.written)
  pub part : IfErr answer (λ _. IfSome remembered (λ _.
      AppendsAskedPart serving settings remembered sink.written sink_new.written))
  pub fault : IfErr answer (λ fault.
      IsTakenFault (length serving.peers) serving.accept serving.workers fault sink sink_new)

-- whether comments stand in the history of a serve: times, or links
abbrev pub has_comments : AskedServe → Bool
has_comments serving = serving.times || serving.links

-- a sink, and how it would stand without comments: as it stands, where there are none; where there are, a text was written to it that is
-- the same but for them
abbrev pub IsBeside : Bool → SinkState → SinkState → SinkState → Type 0
IsBeside false old bare new = bare ≡ new
IsBeside true old bare new = (text : List ℕ) × (bare ≡ without_comments old new text) × HasWrittenBoth old new text

-- a sink to which the rest of a text was written, without a first part of it, with comments or none; and how it would stand with all of
-- that text and no comments
pub record IsRestBeside (old all new : SinkState) : Type 0 where
  pub bare : SinkState
  pub text : List ℕ
  pub comments : List ℕ
  pub rest : HasWrittenRest old bare text
  pub whole : all ≡ with_all old bare text
  pub beside : bare ≡ without_comments old new comments
  pub both : HasWrittenBoth old new comments

-- how a serve leaves a sink, and how it would stand with all of the history: as `IsRestBeside` says of one that goes on, else `IsBeside`
abbrev pub IsWritten : Bool → Bool → SinkState → SinkState → SinkState → Type 0
IsWritten false has old all new = IsBeside has old all new
IsWritten true has old all new = IsRestBeside old all new

-- what serve answers to a sink that would stand so with all of its history, and without comments
abbrev pub HasServed : AskedServe → SinkState → SinkState → Result (Unit {0}) ServeFault → Option (Remembered Global) → Type 0
HasServed serving sink sink_new answer remembered =
    (all : SinkState) × IsWritten (goes_on serving) (has_comments serving) sink all sink_new × IsServeAnswer serving sink all answer remembered

-- the output is as some answer of such a serve leaves it, whose run is remembered, and the status is that answer's
abbrev pub ServesTo : AskedServe → Option (Remembered Global) → SinkState → SinkState → ℕ → Type 0
ServesTo serving remembered sink sink_new = Answers (λ answer. HasServed serving sink sink_new answer remembered) is_done

-- no ID could be drawn for a servent that was to be random: nothing is written, no run is remembered, and the status is 1
abbrev pub IsUnnamed : AskedServe → Option (Remembered Global) → SinkState → SinkState → ℕ → Type 0
IsUnnamed serving remembered sink sink_new status =
    (serving.servent ≡ Random) × (remembered ≡ None) × (sink_new ≡ sink) × (status ≡ 1)

-- a serve is answered, or has no ID
abbrev pub EndsServe : AskedServe → Option (Remembered Global) → SinkState → SinkState → ℕ → Type 0
EndsServe serving remembered sink sink_new status =
    ServesTo serving remembered sink sink_new status ⊎ IsUnnamed serving remembered sink sink_new status

-- the words of a serve are written, no write failed, and the status is 0; or it is 1, and a prefix of them is written, as a write
-- failed, or nothing, as memory ran out
abbrev pub HasPrinted : AskedServe → SinkState → SinkState → ℕ → Type 0
HasPrinted serving old new status =
    ((status ≡ 0) × Appends old.written new.written (config_text serving) × NoWriteFailed old new)
    ⊎ ((status ≡ 1) × ((new ≡ old) ⊎ (AppendsPart old.written new.written (config_text serving) × HasWriteFailed old new)))

-- how a serve leaves its output, and what is remembered: as its run ends, or with its words written
abbrev pub LeavesServe : Serve → Option (Remembered Global) → SinkState → SinkState → ℕ → Type 0
LeavesServe (Run serving) remembered old new status = EndsServe serving remembered old new status
LeavesServe (PrintConfig serving) remembered old new status = HasPrinted serving old new status

-- nothing is read, and a serve leaves the output and the status so
abbrev pub Serves : Serve → Streams → ℕ → Option (Remembered Global) → Type 0
Serves serve s status remembered =
    (s.source_new ≡ s.source) × LeavesServe serve remembered s.sink s.sink_new status
