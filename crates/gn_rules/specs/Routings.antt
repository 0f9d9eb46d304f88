-- How a kind is routed.
use Rattle.std.specs.Prelude.{Bool, true, false}
use Rattle.gn_wire.specs.declared.kind.Kind.{Kind}
use Rattle.gn_wire.specs.declared.kind.Kind.TheVariants.{Ping, Pong, Push, Query, QueryHit, Unknown}
use Rattle.gn_rules.specs.declared.routing.Routing.{Routing}
use Rattle.gn_rules.specs.declared.routing.Routing.TheVariants.{Floods, Back, Pushed, Unnamed}

-- a request Floods, a response goes Back by its request's kind, a Push is Pushed
abbrev pub routing_of : Kind → Routing
routing_of Ping = Floods
routing_of Pong = Back Ping
routing_of Push = Pushed
routing_of Query = Floods
routing_of QueryHit = Back Query
routing_of (Unknown code) = Unnamed

-- whether what is so routed floods
abbrev pub does_flood : Routing → Bool
does_flood Floods = true
does_flood routing = false
