-- What a serve is asked for: its options, what they say, and how that is printed.
use Rattle.std.specs.Prelude.{◌∷◌, ◌==◌, ◌||◌, ℕ, Bool, false, true, List, [], Option, Some, None, codes, filter, is_some, length, nat_eq, nat_le, not, if◌then◌else◌}
use Rattle.std.specs.List.{slice_split}
use Rattle.clap.specs.Words.{App, Row, Text, new_app}
use Rattle.gn_numbers.specs.Numbers.{◌>>=◌}
use Rattle.gn_rules.specs.Limits.{most, most_workers}
use Rattle.gn_rules.specs.declared.limits.Numbers.{Numbers}
use Rattle.gn_words.specs.ConfigTexts.{Saying, Number, Limit, Callers, Ip, Who, Again, Flag, Each, rows_lines}
use Rattle.gn_words.specs.Options.{accept_of, calls_far, is_set, limit_asked, limit_of, number_asked, peers_of, resumes_of, retry_of, retry_with, servent_of, site_of}
use Rattle.gn_words.specs.Rows.{default_rule, flag_rule, repeated_rule, value_rule, with_rules}
use Rattle.gn_words.specs.declared.peers.Peer.{Peer}
use Rattle.gn_words.specs.declared.retrying.Retry.{Retry}
use Rattle.gn_words.specs.declared.retrying.Retry.TheVariants.{Never, For}
use Rattle.gn_words.specs.declared.servent.Servent.{Servent}
use Rattle.gn_words.specs.declared.servent.Servent.TheVariants.{Given, Random}
use Rattle.gn_words.specs.declared.site.Site.{Site}
use Rattle.gn_program.specs.Load.{workers_rule}
use Rattle.gn_program.specs.declared.serve.Rates.{Rates}
use Rattle.gn_program.specs.declared.serve.Shared.{Shared}
use Rattle.gn_program.specs.declared.serve.Times.{Times}

-- what the options of a serve say
pub record AskedServe : Type 0 where
  -- the port where peers call, how many may, where that is limited, and the workers
  pub port : ℕ
  pub accept : Option ℕ
  pub workers : ℕ
  -- where the router is, and who; the files and kilobytes that its Pongs say that it shares
  pub site : Site
  pub servent : Servent
  pub files : ℕ
  pub kilobytes : ℕ
  -- the port where its counts are asked for, where they are anywhere
  pub metrics : Option ℕ
  -- the peers that are called
  pub peers : List Peer
  -- the seconds after which a silent peer is given up, where it ever is; for how long a peer that doesn't listen is called again
  pub idle : Option ℕ
  pub retry : Retry
  -- the seconds between two Pings of the own servent, where it sends any
  pub ping : Option ℕ
  -- how many callers of one address are let in within a minute, and for how many seconds a neighbour may flood the router, where that is
  -- limited
  pub callers_a_minute : Option ℕ
  pub flood : Option ℕ
  -- how many packets are written to a neighbour at once at most
  pub batch : ℕ
  -- the numbers of the router's rules
  pub numbers : Numbers
  -- the seconds after which the run is stopped, where a time stops it, and those that it then has to end
  pub seconds : Option ℕ
  pub grace : ℕ
  -- whether it is stopped at nine tenths of its steps, and at the end of standard input
  pub early : Bool
  pub until_eof : Bool
  -- whether it goes on with the history that standard input gives
  pub resumes : Bool
  -- whether `--keep-history` is given, which changes nothing
  pub keeps : Bool
  -- whether times and links stand in the history as comments
  pub times : Bool
  pub links : Bool
  -- whether a report of the links is written, and how far the run is
  pub report : Bool
  pub progress : Bool

-- the own servent's ID where none is given: 47 sixteen times
abbrev pub usual_servent : Text
usual_servent = codes "47474747474747474747474747474747"

-- the subcommand `serve`: three options have to be given; each other has a value where it isn't given, or may be given often, or is a flag
abbrev pub serve_app : App
serve_app = with_rules (new_app (codes "serve"))
    (value_rule (codes "port")
    ∷ value_rule (codes "accept")
    ∷ workers_rule
    ∷ default_rule (codes "bind") (codes "127.0.0.1")
    ∷ default_rule (codes "address") (codes "0.0.0.0")
    ∷ default_rule (codes "servent") usual_servent
    ∷ default_rule (codes "files") (codes "0")
    ∷ default_rule (codes "kilobytes") (codes "0")
    ∷ default_rule (codes "metrics") (codes "0")
    ∷ repeated_rule (codes "peer")
    ∷ default_rule (codes "idle") (codes "0")
    ∷ default_rule (codes "retry") (codes "0")
    ∷ default_rule (codes "ping") (codes "0")
    ∷ default_rule (codes "callers-a-minute") (codes "0")
    ∷ default_rule (codes "flood") (codes "0")
    ∷ default_rule (codes "batch") (codes "64")
    ∷ default_rule (codes "neighbours") (codes "64")
    ∷ default_rule (codes "remembered") (codes "4096")
    ∷ default_rule (codes "servents") (codes "1024")
    ∷ default_rule (codes "stage") (codes "1024")
    ∷ default_rule (codes "queue") (codes "1024")
    ∷ default_rule (codes "life") (codes "7")
    ∷ default_rule (codes "crowd") (codes "256")
    ∷ default_rule (codes "steps") (codes "1000000")
    ∷ default_rule (codes "for") (codes "0")
    ∷ default_rule (codes "grace") (codes "5")
    ∷ flag_rule (codes "stop-early")
    ∷ flag_rule (codes "until-eof")
    ∷ flag_rule (codes "resume")
    ∷ flag_rule (codes "keep-history")
    ∷ flag_rule (codes "times")
    ∷ flag_rule (codes "links")
    ∷ flag_rule (codes "report")
    ∷ flag_rule (codes "progress")
    ∷ flag_rule (codes "print-config")
    ∷ [])

-- the numbers of a router's rules, where each is within its limits
abbrev pub numbers_of : List Row → Option Numbers
numbers_of rows = do
  neighbours ← number_asked (codes "neighbours") 1 most.neighbours rows
  seen ← number_asked (codes "remembered") 1 most.seen rows
  servents ← number_asked (codes "servents") 1 most.servents rows
  stage ← number_asked (codes "stage") 1 most.stage rows
  out ← number_asked (codes "queue") 1 most.out rows
  life ← number_asked (codes "life") 0 most.life rows
  crowd ← number_asked (codes "crowd") 0 most.crowd rows
  steps ← number_asked (codes "steps") 1 most.steps rows
  Some (record {
    neighbours = neighbours;
    seen = seen;
    servents = servents;
    stage = stage;
    out = out;
    steps = steps;
    life = life;
    crowd = crowd;
  })

-- whether no neighbour meets a threshold of its own before that of all: it has none, or one that isn't lower
abbrev pub is_never_crowded : ℕ → ℕ → Bool
is_never_crowded crowd stage = crowd == 0 || nat_le stage crowd

-- the seconds between two Pings, and how many callers of one address are let in within a minute, where a serve of any number of callers asks
-- for that; and for how many seconds a neighbour may flood the router, where each has a threshold, crowd, below that of all, stage
abbrev pub rates_of : Option ℕ → ℕ → ℕ → List Row → Option Rates
rates_of accept crowd stage rows = do
  ping ← limit_asked (codes "ping") 0 86400 (is_some accept) rows
  callers_a_minute ← limit_asked (codes "callers-a-minute") 0 60000 (is_some accept) rows
  flood ← limit_asked (codes "flood") 0 86400 (is_never_crowded crowd stage) rows
  Some (record { ping = ping; callers_a_minute = callers_a_minute; flood = flood })

-- the seconds of a serve's limits, where each is within its own: for a silent peer, a peer that doesn't listen, the run, its end; and whether
-- it goes on with a history
abbrev pub times_of : Option ℕ → Servent → List Row → Option Times
times_of accept servent rows = do
  idle ← number_asked (codes "idle") 0 86400 rows
  said ← retry_of rows
  seconds ← number_asked (codes "for") 0 86400 rows
  grace ← number_asked (codes "grace") 0 3600 rows
  retry ← retry_with accept said
  resumes ← resumes_of accept servent rows
  Some (record { idle = limit_of idle; retry = retry; seconds = limit_of seconds; grace = grace; resumes = resumes })

-- the port where the counts of a serve are asked for, 1 to 65535 and not the one that peers call; none, where it is 0
abbrev pub metrics_of : ℕ → List Row → Option (Option ℕ)
metrics_of port rows = do
  asked ← number_asked (codes "metrics") 0 65535 rows
  if asked == port then None else Some (limit_of asked)

-- what the own Pongs say that the router shares, and where its counts are asked for, where each number is within its limits
abbrev pub shared_of : ℕ → List Row → Option Shared
shared_of port rows = do
  files ← number_asked (codes "files") 0 4294967295 rows
  kilobytes ← number_asked (codes "kilobytes") 0 4294967295 rows
  metrics ← metrics_of port rows
  Some (record { files = files; kilobytes = kilobytes; metrics = metrics })

-- what the options of a serve ask for, where each is within its limits, and peers are called for as long as it runs by one of any
-- number of callers alone
abbrev pub serving_of : List Row → Option AskedServe
serving_of rows = do
  port ← number_asked (codes "port") 1 65535 rows
  accept ← accept_of rows
  workers ← number_asked (codes "workers") 1 most_workers rows
  site ← site_of rows
  servent ← servent_of rows
  shared ← shared_of port rows
  peers ← peers_of (calls_far site) rows
  batch ← number_asked (codes "batch") 1 1024 rows
  numbers ← numbers_of rows
  rates ← rates_of accept numbers.crowd numbers.stage rows
  times ← times_of accept servent rows
  Some (record {
    port = port;
    accept = accept;
    workers = workers;
    site = site;
    servent = servent;
    files = shared.files;
    kilobytes = shared.kilobytes;
    metrics = shared.metrics;
    peers = peers;
    idle = times.idle;
    retry = times.retry;
    ping = rates.ping;
    callers_a_minute = rates.callers_a_minute;
    flood = rates.flood;
    batch = batch;
    numbers = numbers;
    seconds = times.seconds;
    grace = times.grace;
    early = is_set (codes "stop-early") rows;
    until_eof = is_set (codes "until-eof") rows;
    resumes = times.resumes;
    keeps = is_set (codes "keep-history") rows;
    times = is_set (codes "times") rows;
    links = is_set (codes "links") rows;
    report = is_set (codes "report") rows;
    progress = is_set (codes "progress") rows;
  })

-- the options of a serve, in the order in which help has them
abbrev pub serve_rows : AskedServe → List (Text × Saying)
serve_rows serving =
    (codes "port", Number serving.port)
    ∷ (codes "accept", Callers serving.accept)
    ∷ (codes "workers", Number serving.workers)
    ∷ (codes "bind", Ip serving.site.bind)
    ∷ (codes "address", Ip serving.site.address)
    ∷ (codes "servent", Who serving.servent)
    ∷ (codes "files", Number serving.files)
    ∷ (codes "kilobytes", Number serving.kilobytes)
    ∷ (codes "metrics", Limit serving.metrics)
    ∷ (codes "peer", Each serving.peers)
    ∷ (codes "idle", Limit serving.idle)
    ∷ (codes "retry", Again serving.retry)
    ∷ (codes "ping", Limit serving.ping)
    ∷ (codes "callers-a-minute", Limit serving.callers_a_minute)
    ∷ (codes "flood", Limit serving.flood)
    ∷ (codes "batch", Number serving.batch)
    ∷ (codes "neighbours", Number serving.numbers.neighbours)
    ∷ (codes "remembered", Number serving.numbers.seen)
    ∷ (codes "servents", Number serving.numbers.servents)
    ∷ (codes "stage", Number serving.numbers.stage)
    ∷ (codes "queue", Number serving.numbers.out)
    ∷ (codes "life", Number serving.numbers.life)
    ∷ (codes "crowd", Number serving.numbers.crowd)
    ∷ (codes "steps", Number serving.numbers.steps)
    ∷ (codes "for", Limit serving.seconds)
    ∷ (codes "grace", Number serving.grace)
    ∷ (codes "stop-early", Flag serving.early)
    ∷ (codes "until-eof", Flag serving.until_eof)
    ∷ (codes "resume", Flag serving.resumes)
    ∷ (codes "keep-history", Flag serving.keeps)
    ∷ (codes "times", Flag serving.times)
    ∷ (codes "links", Flag serving.links)
    ∷ (codes "report", Flag serving.report)
    ∷ (codes "progress", Flag serving.progress)
    ∷ []

-- all words of a serve behind `gn serve`, as `--print-config` writes them
abbrev pub config_text : AskedServe → Text
config_text serving = rows_lines (serve_rows serving)

-- the words of a serve, with these texts for its port, the peers that may call, and its workers, and these words after them
abbrev pub serve_words : Text → Text → Text → Text → List Text → List Text
serve_words program port accept workers more =
    program ∷ codes "serve" ∷ codes "--port" ∷ port ∷ codes "--accept" ∷ accept ∷ codes "--workers" ∷ workers ∷ more

-- the words between the spaces and line feeds of a text
abbrev pub words_between : Text → List Text
words_between text = filter (λ word. not (nat_eq (length word) 0)) (slice_split (λ b. b == 32 || b == 10) text)

-- a serve of one port, with what holds of the options that aren't given
abbrev pub usual_serve : AskedServe
usual_serve =
    record {
      port = 6346;
      accept = Some 128;
      workers = 64;
      site = record { bind = 127 ∷ 0 ∷ 0 ∷ 1 ∷ []; address = 127 ∷ 0 ∷ 0 ∷ 1 ∷ [] };
      servent = Given (record { 0 = 71 ∷ 71 ∷ 71 ∷ 71 ∷ 71 ∷ 71 ∷ 71 ∷ 71 ∷ 71 ∷ 71 ∷ 71 ∷ 71 ∷ 71 ∷ 71 ∷ 71 ∷ 71 ∷ [] });
      files = 0;
      kilobytes = 0;
      metrics = None;
      peers = [];
      idle = None;
      retry = Never;
      ping = None;
      callers_a_minute = None;
      flood = None;
      batch = 64;
      numbers = record {
        neighbours = 64;
        seen = 4096;
        servents = 1024;
        stage = 1024;
        out = 1024;
        steps = 1000000;
        life = 7;
        crowd = 256;
      };
      seconds = None;
      grace = 5;
      early = false;
      until_eof = false;
      resumes = false;
      keeps = false;
      times = false;
      links = false;
      report = false;
      progress = false;
    }

-- a serve of which each option is given but `--resume`, which isn't taken with all others
abbrev pub full_serve : AskedServe
full_serve =
    record {
      port = 65535;
      accept = None;
      workers = 1;
      site = record { bind = 0 ∷ 0 ∷ 0 ∷ 0 ∷ []; address = 192 ∷ 0 ∷ 2 ∷ 7 ∷ [] };
      servent = Random;
      files = 4294967295;
      kilobytes = 70;
      metrics = Some 9100;
      peers =
          record { ip = 127 ∷ 0 ∷ 0 ∷ 1 ∷ []; port = 6347 } ∷ record { ip = 192 ∷ 0 ∷ 2 ∷ 13 ∷ []; port = 1 } ∷ [];
      idle = Some 86400;
      retry = For 7;
      ping = Some 30;
      callers_a_minute = Some 600;
      flood = Some 45;
      batch = 1024;
      numbers = record {
        neighbours = 2;
        seen = 65536;
        servents = 8;
        stage = 16;
        out = 32;
        steps = 99;
        life = 255;
        crowd = 3;
      };
      seconds = Some 10;
      grace = 3600;
      early = true;
      until_eof = true;
      resumes = false;
      keeps = true;
      times = true;
      links = true;
      report = true;
      progress = true;
    }

-- a serve of any number of callers that goes on with a history
abbrev pub resumed_serve : AskedServe
resumed_serve = record usual_serve { accept = None; resumes = true }

-- the words that are written of a serve, behind the program's name and the command's
abbrev pub written_words : Text → AskedServe → List Text
written_words program serving = program ∷ codes "serve" ∷ words_between (config_text serving)
