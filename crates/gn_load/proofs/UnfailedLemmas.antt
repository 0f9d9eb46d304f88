-- No read of a capture's links fails.
use Rattle.std.proofs.Common.{◌≡◌, ◌++◌, ℕ, zero, suc, true, List, [], ◌∷◌, length, map, get_or, refl, subst, arith, None, Option, Ok, IfOk}
use Rattle.std.specs.Prelude.{is_some, set}
use Rattle.std.proofs.lemmas.List.{get_or-map}
use Rattle.gn_links.specs.Halves.{Source}
use Rattle.gn_links.specs.Memory.{Memory, MemoryReading, MemoryWriting, half_read, source_of}
use Rattle.gn_shake.specs.declared.role.Role.TheVariants.{Plain}
use Rattle.gn_capture.specs.declared.line.Line.{Line}
use Rattle.gn_capture.specs.declared.line.Line.TheVariants.{Join, Greeted, Piece, Route, RouteAll, Take, Close, Originate, Stats}
use Rattle.gn_report.specs.declared.report.Report.{Report}
use Rattle.gn_threads.specs.Headline.{LinksReadOwn}
use Rattle.gn_load.specs.Links.{given, line_taken, link_of, links_from}
use Rattle.gn_load.specs.Loads.{NoReadFailed}
use Rattle.gn_load.proofs.FewLemmas.{joined_with}

-- no read of these links fails
abbrev NoneFails : List Memory → Type 0
NoneFails [] = Unit {0}
NoneFails (link ∷ links) = (link.read ≡ None) × NoneFails links

none_at : (links : List Memory) (at : ℕ) (link : Memory) → NoneFails links → link.read ≡ None → (get_or links at link).read ≡ None
none_at [] at link all none = none
none_at (first ∷ links) zero link all none = all.0
none_at (first ∷ links) (suc at) link all none = none_at links at link all.1 none

none_set : (links : List Memory) (at : ℕ) (link : Memory) → NoneFails links → link.read ≡ None → NoneFails (set links at link)
none_set [] at link all none = tt
none_set (first ∷ links) zero link all none = (none, all.1)
none_set (first ∷ links) (suc at) link all none = (all.0, none_set links at link all.1 none)

none_more : (links : List Memory) (link : Memory) → NoneFails links → link.read ≡ None → NoneFails (links ++ link ∷ [])
none_more [] link all none = (none, tt)
none_more (first ∷ links) link all none = (all.0, none_more links link all.1 none)

none_given : (links : List Memory) (i : ℕ) (bytes : List ℕ) → NoneFails links → NoneFails (given links i bytes)
none_given links zero bytes all = all
none_given links (suc at) bytes all = none_set links at _ all (none_at links at (link_of Plain []) all refl)

line_none : {A : Type 0} (links : List Memory) (n : ℕ) (line : Line A) → NoneFails links → IfOk (line_taken links (n, line)) NoneFails
line_none links n Join all = none_more links _ all refl
line_none links n Greeted all = none_more links _ all refl
line_none links n (Piece i bytes) all = none_given links i bytes all
line_none links n (Route t) all = _
line_none links n RouteAll all = _
line_none links n (Take c) all = _
line_none links n (Close c) all = _
line_none links n (Originate d) all = _
line_none links n Stats all = _

lines_none : {A : Type 0} (lines : List (ℕ × Line A)) (links : List Memory) → NoneFails links → IfOk (links_from links lines) NoneFails
lines_none [] links all = all
lines_none ((n, line) ∷ more) links all =
    joined_with (line_taken links (n, line)) (λ after. links_from after more) NoneFails NoneFails (line_none links n line all) (λ after none. lines_none more after none)

-- so no reader of a run over them ended because a read failed
pub none_failed : {A : Type 0} (lines : List (ℕ × Line A)) (links : List Memory) (report : Report MemoryReading MemoryWriting A) → links_from [] lines ≡ Ok links
    → length report.links.items ≡ length links → LinksReadOwn half_read (map source_of links) report → NoReadFailed report
none_failed lines links report made each bytes = λ k link below failed.
    let first = link_of Plain [] in
    let all : NoneFails links = subst (λ r. IfOk r NoneFails) made (lines_none lines [] tt) in
    let there = get_or-map source_of links k first (source_of first) (omega (arith, below, each)) in
    let may : is_some (get_or links k first).read ≡ true = subst (λ (s : Source). s.may_fail ≡ true) there ((bytes k (source_of first) link below).failed failed) in
    let none : Option ℕ = None in
    let no : is_some none ≡ true = subst (λ (o : Option ℕ). is_some o ≡ true) (none_at links k first all refl) may in
    absurd (cc)
