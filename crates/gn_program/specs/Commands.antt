-- The commands: how the words of a command line are read, by the rules of the crate clap, and what is then done.
use Rattle.std.specs.Prelude.{◌≡◌, ◌≢◌, ◌⊎◌, ◌≤◌, ◌∷◌, ℕ, List, [], Bool, true, false, Option, None, Some, codes, is_some, option_map, replicate, if◌then◌else◌}
use Rattle.std.specs.Str.{bytes_eq}
use Rattle.std.specs.declared.alloc.Global.{Global}
use Rattle.clap.specs.Kinds.{Kinds, or_else}
use Rattle.clap.specs.Words.{App, Row, Text, fault_of, new_app, subcommand_of, with_subcommand}
use Rattle.clap.specs.declared.error.kind.ErrorKind.{ErrorKind}
use Rattle.clap.specs.declared.error.kind.ErrorKind.TheVariants.{DisplayHelp, DisplayVersion, InvalidSubcommand, OutOfMemory, ValueValidation}
use Rattle.gn_io.specs.Streams.{Streams}
use Rattle.gn_service.specs.Ran.{Remembered}
use Rattle.gn_show.specs.declared.form.Form.TheVariants.{Json, Plain, Rows}
use Rattle.gn_show.specs.declared.form.View.TheVariants.{Stats, Steps}
use Rattle.gn_words.specs.Options.{peer_of, peers_in, servent_in, site_at}
use Rattle.gn_words.specs.declared.retrying.Retry.TheVariants.{Always}
use Rattle.gn_words.specs.declared.servent.Servent.TheVariants.{Random}
use Rattle.gn_program.specs.Audit.{Audits, audit_app, audit_asked}
use Rattle.gn_program.specs.Load.{Loads, load_app, load_asked}
use Rattle.gn_program.specs.Replay.{Replays, replay_app, replay_asked}
use Rattle.gn_program.specs.Serve.{full_serve, resumed_serve, serve_app, serve_words, usual_serve, written_words}
use Rattle.gn_program.specs.Serves.{Serves, serve_asked}
use Rattle.gn_program.specs.Show.{Shows, show_app, show_asked}
use Rattle.gn_program.specs.declared.audit.Audit.TheVariants.{Verdict, Explained, Unfinished}
use Rattle.gn_program.specs.declared.replay.Replay.TheVariants.{Lines, History}
use Rattle.gn_program.specs.declared.request.Request.{Request}
use Rattle.gn_program.specs.declared.request.Request.TheVariants.{Replay, Audit, Show, Load, Serve}
use Rattle.gn_program.specs.declared.serve.Serve.TheVariants.{Config, Run}

-- the command `gn` before it has its subcommands: it has a version, and a subcommand has to be named. clap adds one, `help`,
-- which asks for no work
abbrev pub bare_app : App
bare_app =
    let gn = new_app (codes "gn") in
    record gn {
      top = record gn.top { has_version = true; subcommand_required = true };
    }

-- the command `gn` with the subcommands that start no threads
abbrev pub texts_app : App
texts_app = with_subcommand (with_subcommand (with_subcommand bare_app replay_app.top) audit_app.top) show_app.top

-- the command `gn`: it has these subcommands, of which none takes more than its flags and options
abbrev pub gn_app : App
gn_app = with_subcommand (with_subcommand texts_app load_app.top) serve_app.top

-- the request that a subcommand with these flags and options stands for; nothing, where a value isn't within its limits
abbrev pub request_named : Text → List Row → Option Request
request_named name rows =
    if bytes_eq name (codes "replay") then option_map Replay (replay_asked rows)
    else (if bytes_eq name (codes "audit") then option_map Audit (audit_asked rows)
    else (if bytes_eq name (codes "show") then option_map Show (show_asked rows)
    else (if bytes_eq name (codes "load") then option_map Load (load_asked rows)
    else (if bytes_eq name (codes "serve") then option_map Serve (serve_asked rows) else None))))

-- what is wrong with the values of a subcommand's options: one isn't within its limits, so that they stand for no request
abbrev pub value_kinds : Option (Text × List Row) → Kinds
value_kinds (Some (name, rows)) = if is_some (request_named name rows) then [] else ValueValidation ∷ []
value_kinds None = []

-- what else than a request words are, in clap's kinds, help and the version among them; nothing is wrong with the words
-- of a request. A value is looked at where clap's rules find nothing wrong
abbrev pub kinds_of : List Text → Kinds
kinds_of words = or_else (fault_of gn_app words) (value_kinds (subcommand_of gn_app words))

-- what the words ask for, by what is wrong with them and by the subcommand that they name; nothing, where something is
-- wrong
abbrev pub request_by : Kinds → Option (Text × List Row) → Option Request
request_by [] (Some (name, rows)) = request_named name rows
request_by [] None = None
request_by (fault ∷ faults) named = None

-- what the words ask for, the first of them the program's name; nothing where they ask for help or the version, or
-- something is wrong with them
abbrev pub request_of : List Text → Option Request
request_of words = request_by (kinds_of words) (subcommand_of gn_app words)

-- the streams and the status are as the request's command says, and so is what is remembered of the run of a serve
abbrev pub Does : Request → Streams → ℕ → Option (Remembered Global) → Type 0
Does (Replay replay) s status remembered = Replays replay s status
Does (Audit audit) s status remembered = Audits audit s status
Does (Show show) s status remembered = Shows show s status
Does (Load load) s status remembered = Loads load s status
Does (Serve serve) s status remembered = Serves serve s status remembered

-- the same, where the run of a serve isn't remembered any more
abbrev pub HasDone : Request → Streams → ℕ → Type 0
HasDone request s status = (remembered : Option (Remembered Global)) × Does request s status remembered

-- words that ask for no work: at help and the version the status is 0 or 1 and anything may be written; else nothing is
-- written, and the status is 1 where memory ran out and 2 at all else
pub record IsTurnedAway {W : Type 0} (kind : ErrorKind) (writer writer_new : W) (status : ℕ) : Type 0 where
  pub printed : (kind ≡ DisplayHelp) ⊎ (kind ≡ DisplayVersion) → status ≤ 1
  pub memory : kind ≡ OutOfMemory → status ≡ 1
  pub mistake : kind ≢ DisplayHelp → kind ≢ DisplayVersion → kind ≢ OutOfMemory → status ≡ 2
  pub unwritten : kind ≢ DisplayHelp → kind ≢ DisplayVersion → writer_new ≡ writer

-- what is left where memory ran out as the words were read: nothing was read or written, and the status is 1
abbrev pub IsUnread : {S W : Type 0} → S → S → W → W → ℕ → Type 0
IsUnread reader reader_new writer writer_new status = (reader_new ≡ reader) × (writer_new ≡ writer) × (status ≡ 1)

-- the words of a load, with this text for the number of workers
abbrev pub load_words : Text → Text → List Text
load_words program workers = program ∷ codes "load" ∷ codes "--workers" ∷ workers ∷ []

-- the words of a load that says how far it is
abbrev pub progress_words : Text → Text → List Text
progress_words program workers = program ∷ codes "load" ∷ codes "--workers" ∷ workers ∷ codes "--progress" ∷ []

-- a load by so many workers, which says how far it is, or doesn't
abbrev pub loaded : ℕ → Bool → Request
loaded workers says_progress = Load (record { workers = workers; says_progress = says_progress })

-- plain words are read as they say, whatever the program's name is; and a value that isn't within its limits is a mistake in
-- the value of an option
pub record PlainWordsAreRead : Type 0 where
  pub replay : (program : Text) → request_of (program ∷ codes "replay" ∷ []) ≡ Some (Replay Lines)
  pub history : (program : Text) → request_of (program ∷ codes "replay" ∷ codes "--history" ∷ []) ≡ Some (Replay History)
  pub audit : (program : Text) → request_of (program ∷ codes "audit" ∷ []) ≡ Some (Audit Verdict)
  pub explain : (program : Text) → request_of (program ∷ codes "audit" ∷ codes "--explain" ∷ []) ≡ Some (Audit Explained)
  pub unfinished : (program : Text) → request_of (program ∷ codes "audit" ∷ codes "--unfinished" ∷ []) ≡ Some (Audit Unfinished)
  pub show : (program : Text) → request_of (program ∷ codes "show" ∷ []) ≡ Some (Show (record { view = Steps Plain }))
  pub json : (program : Text) → request_of (program ∷ codes "show" ∷ codes "--json" ∷ []) ≡ Some (Show (record { view = Steps Json }))
  pub csv : (program : Text) → request_of (program ∷ codes "show" ∷ codes "--csv" ∷ []) ≡ Some (Show (record { view = Steps Rows }))
  pub stats : (program : Text) → request_of (program ∷ codes "show" ∷ codes "--stats" ∷ []) ≡ Some (Show (record { view = Stats }))
  pub both : (program : Text)
      → kinds_of (program ∷ codes "show" ∷ codes "--json" ∷ codes "--stats" ∷ []) ≡ ValueValidation ∷ []
  pub load : (program : Text) → request_of (load_words program (codes "4")) ≡ Some (loaded 4 false)
  pub watched : (program : Text) → request_of (progress_words program (codes "4")) ≡ Some (loaded 4 true)
  pub most : (program : Text) → request_of (load_words program (codes "64")) ≡ Some (loaded 64 false)
  pub short : (program : Text) → request_of (program ∷ codes "load" ∷ codes "-w" ∷ codes "4" ∷ []) ≡ Some (loaded 4 false)
  pub none : (program : Text) → kinds_of (load_words program (codes "0")) ≡ ValueValidation ∷ []
  pub many : (program : Text) → kinds_of (load_words program (codes "65")) ≡ ValueValidation ∷ []
  pub serve : (program : Text) → request_of (serve_words program (codes "6346") (codes "128") (codes "64") [])
      ≡ Some (Serve (Run usual_serve))
  pub config : (program : Text)
      → request_of (serve_words program (codes "6346") (codes "128") (codes "64") (codes "--print-config" ∷ []))
      ≡ Some (Serve (Config usual_serve))
  -- what is then written is read as that very serve, and so is what is written of one with each option but `--resume`, and of one with that
  pub written : (program : Text) → request_of (written_words program usual_serve) ≡ Some (Serve (Run usual_serve))
  pub full : (program : Text) → request_of (written_words program full_serve) ≡ Some (Serve (Run full_serve))
  pub resumed : (program : Text) → request_of (written_words program resumed_serve) ≡ Some (Serve (Run resumed_serve))
  pub any : (program : Text) → request_of (serve_words program (codes "6346") (codes "any") (codes "64") [])
      ≡ Some (Serve (Run (record usual_serve { accept = None })))
  -- peers are called for as long as a serve of any number of callers runs; by one of so many that is a mistake
  pub always : (program : Text)
      → request_of (serve_words program (codes "6346") (codes "any") (codes "64") (codes "--retry" ∷ codes "always" ∷ []))
      ≡ Some (Serve (Run (record usual_serve { accept = None; retry = Always })))
  pub not_always : (program : Text)
      → kinds_of (serve_words program (codes "6346") (codes "1") (codes "1") (codes "--retry" ∷ codes "always" ∷ []))
      ≡ ValueValidation ∷ []
  -- a serve goes on with a history where it is asked for, only with any number of callers, the same servent, and no end of its input
  pub goes_on : (program : Text)
      → request_of (serve_words program (codes "6346") (codes "any") (codes "64") (codes "--resume" ∷ []))
      ≡ Some (Serve (Run resumed_serve))
  pub goes_on_alone : (program : Text)
      → kinds_of (serve_words program (codes "6346") (codes "1") (codes "1") (codes "--resume" ∷ []))
      ≡ ValueValidation ∷ []
  pub no_end : (program : Text)
      → kinds_of (serve_words program (codes "6346") (codes "any") (codes "1") (codes "--until-eof" ∷ codes "--resume" ∷ []))
      ≡ ValueValidation ∷ []
  pub no_other : (program : Text)
      → kinds_of (serve_words program (codes "6346") (codes "any") (codes "1")
      (codes "--servent" ∷ codes "random" ∷ codes "--resume" ∷ []))
      ≡ ValueValidation ∷ []
  -- its own servent sends Pings where any number of callers is taken alone
  pub no_pings : (program : Text)
      → kinds_of (serve_words program (codes "6346") (codes "1") (codes "1") (codes "--ping" ∷ codes "1" ∷ []))
      ≡ ValueValidation ∷ []
  -- a serve of so many callers limits none of one address
  pub no_rate : (program : Text)
      → kinds_of (serve_words program (codes "6346") (codes "1") (codes "1") (codes "--callers-a-minute" ∷ codes "1" ∷ []))
      ≡ ValueValidation ∷ []
  -- nobody floods a router whose neighbours have no threshold of their own, or one that isn't below that of all
  pub no_flood : (program : Text)
      → kinds_of (serve_words program (codes "6346") (codes "1") (codes "1") (codes "--crowd" ∷ codes "0" ∷ codes "--flood" ∷ codes "1" ∷ []))
      ≡ ValueValidation ∷ []
  pub still_no_flood : (program : Text)
      → kinds_of (serve_words program (codes "6346") (codes "1") (codes "1") (codes "--stage" ∷ codes "256" ∷ codes "--flood" ∷ codes "1" ∷ []))
      ≡ ValueValidation ∷ []
  -- its counts are asked for at another port than the one that peers call
  pub no_metrics : (program : Text)
      → kinds_of (serve_words program (codes "6346") (codes "1") (codes "1") (codes "--metrics" ∷ codes "6346" ∷ []))
      ≡ ValueValidation ∷ []
  pub no_port : (program : Text)
      → kinds_of (serve_words program (codes "0") (codes "1") (codes "1") []) ≡ ValueValidation ∷ []
  pub accepts : (program : Text)
      → kinds_of (serve_words program (codes "6346") (codes "129") (codes "1") []) ≡ ValueValidation ∷ []
  pub workers : (program : Text)
      → kinds_of (serve_words program (codes "6346") (codes "1") (codes "65") []) ≡ ValueValidation ∷ []
  -- help is asked for by a subcommand, which may also say that there is none of a name behind it, and by an option
  pub help : (program : Text) → kinds_of (program ∷ codes "help" ∷ []) ≡ DisplayHelp ∷ InvalidSubcommand ∷ []
  pub help_option : (program : Text) → kinds_of (program ∷ codes "serve" ∷ codes "--help" ∷ []) ≡ DisplayHelp ∷ []
  -- a router is random where that word says so, and otherwise who the ID says
  pub random : servent_in (codes "random") ≡ Some Random
  -- a peer of this machine is one that is called; one of another machine is a mistake
  pub near : peer_of false (codes "127.0.0.1:6347") ≡ Some (record { ip = 127 ∷ 0 ∷ 0 ∷ 1 ∷ []; port = 6347 })
  pub far : peer_of false (codes "10.0.0.1:6347") ≡ None
  -- so it is of a serve that isn't told where it listens, and of one that listens at another address of this machine that begins with 127
  pub no_far : (program : Text)
      → kinds_of (serve_words program (codes "6346") (codes "1") (codes "1") (codes "--peer" ∷ codes "10.0.0.1:6347" ∷ []))
      ≡ ValueValidation ∷ []
  pub still_no_far : (program : Text)
      → kinds_of (serve_words program (codes "6346") (codes "1") (codes "1")
      (codes "--bind" ∷ codes "127.0.0.2" ∷ codes "--peer" ∷ codes "10.0.0.1:6347" ∷ []))
      ≡ ValueValidation ∷ []
  -- its own Pongs say the address at which it listens; where that is 0.0.0.0, another one has to be given
  pub bound : site_at (10 ∷ 0 ∷ 0 ∷ 7 ∷ []) (0 ∷ 0 ∷ 0 ∷ 0 ∷ [])
      ≡ Some (record { bind = 10 ∷ 0 ∷ 0 ∷ 7 ∷ []; address = 10 ∷ 0 ∷ 0 ∷ 7 ∷ [] })
  pub nowhere : (program : Text)
      → kinds_of (serve_words program (codes "6346") (codes "1") (codes "1") (codes "--bind" ∷ codes "0.0.0.0" ∷ []))
      ≡ ValueValidation ∷ []
  pub long : (far : Bool) (peer : Text) → peers_in far (replicate 65 peer) ≡ None
