-- A report that was made of an account and the history of its run.
use Rattle.std.proofs.Common.{◌≡◌, ◌<◌, ◌+◌, ◌∙◌, ◌++◌, ◌∷◌, ℕ, List, [], length, map, Vec, ap, append-nil, append_assoc, arith, refl, subst, sym}
use Rattle.std.proofs.Math.ListN.{get_or}
use Rattle.std.proofs.lemmas.List.{ext_get_or, get_or-map, length-map, map-append, nil_from_length}
use Rattle.std.proofs.lemmas.Simd.{map-map}
use Rattle.gn_rules.specs.declared.receipt.Receipt.{Receipt}
use Rattle.gn_rules.specs.declared.receipt.Step.{Step}
use Rattle.gn_rules.specs.History.{mine}
use Rattle.gn_receipts.specs.Made.{AreMade, receipt_list}
use Rattle.gn_report.specs.Accounts.{link_of, report_of}
use Rattle.gn_actors.specs.declared.who.Who.TheVariants.{House}
use Rattle.gn_report.specs.Actors.{AreOwn, number_in, receipts_of}
use Rattle.gn_report.specs.Told.{LinkEnds, Tells, account_ends, ends_of, lists_of}
use Rattle.gn_report.specs.declared.account.Account.{Account}
use Rattle.gn_report.specs.Vectors.{vec_of}
use Rattle.gn_report.specs.declared.report.LinkReport.{LinkReport}
use Rattle.gn_report.specs.declared.report.Report.{Report}
use Rattle.gn_report.proofs.ReceiptLemmas.{as_many_as_actors, at_reader, at_writer}

-- one more of some that are moved, and all of them
pub one_moved : {H S X : Type 0} (f : H → X) (k : S → X) (hs more : List H) (rest left : List S) (h : H) (x : S) (all : List X) → more ≡ hs ++ h ∷ [] → f h ≡ k x → rest ≡ x ∷ left
    → map f hs ++ map k rest ≡ all → map f more ++ map k left ≡ all
one_moved f k hs more rest left h x all is same next before =
    ap (λ r. r ++ map k left) (ap (λ hs. map f hs) is ∙ (map-append f hs (h ∷ []) ∙ ap (λ y. map f hs ++ y ∷ []) same))
    ∙ (append_assoc (map f hs) (k x ∷ []) (map k left) ∙ (ap (λ r. map f hs ++ map k r) (sym next) ∙ before))

pub all_moved : {H S X : Type 0} (f : H → X) (k : S → X) (hs : List H) (rest : List S) (all : List X) → length rest ≡ 0 → map f hs ++ map k rest ≡ all → map f hs ≡ all
all_moved f k hs rest all none before = sym (ap (λ r. map f hs ++ map k r) (nil_from_length rest none) ∙ append-nil (map f hs)) ∙ before

-- they are made of the history
pub made_lists : {A : Type 0} (count n : ℕ) (steps : List (Step A)) (lists all : List (List (Receipt A))) → lists ≡ all → count ≡ n → AreMade count steps all → AreMade n steps lists
made_lists {A} count n steps lists all is same made =
    subst (λ (ls : List (List (Receipt A))). AreMade n steps ls) (sym is) (subst (λ m. AreMade m steps all) same made)

module _ {Rd W A : Type 0} where
  -- the receipts of all actors, dealt out
  pub dealt_lists : (all readers writers workers : List (Vec (Receipt A) A)) (house : Vec (Receipt A) A) (links : List (LinkReport Rd W A))
      → all ≡ readers ++ (writers ++ (workers ++ house ∷ [])) → map (λ link. link.reader_receipts.items) links ≡ map receipt_list readers
      → map (λ link. link.writer_receipts.items) links ≡ map receipt_list writers → lists_of links workers house ≡ map receipt_list all
  dealt_lists all readers writers workers house links is reading writing =
      let last = map receipt_list workers ++ house.items ∷ [] in
      ap (λ r. r ++ (map (λ link. link.writer_receipts.items) links ++ last)) reading
      ∙ (ap (λ w. map receipt_list readers ++ (w ++ last)) writing
      ∙ sym (ap (λ xs. map receipt_list xs) is
      ∙ (map-append receipt_list readers (writers ++ (workers ++ house ∷ []))
      ∙ ap (λ r. map receipt_list readers ++ r)
      (map-append receipt_list writers (workers ++ house ∷ []) ∙ ap (λ r. map receipt_list writers ++ r) (map-append receipt_list workers (house ∷ []))))))

  -- and are those of the account
  pub same_receipts : (account : Account Rd W A) (report : Report Rd W A) → AreOwn (report_of account) → report.history.items ≡ account.history.items
      → AreMade (number_in (report_of account) House + 1) report.history.items (receipts_of report) → receipts_of report ≡ receipts_of (report_of account)
  same_receipts account report own same made =
      ext_get_or [] (receipts_of report) (receipts_of (report_of account)) (made.long ∙ sym (as_many_as_actors (report_of account))) (λ a below.
      let within : a < number_in (report_of account) House + 1 = subst (λ n. a < n) made.long below in
      made.each a within ∙ (ap (λ (steps : List (Step A)). mine steps a) same ∙ sym (own a within)))

  -- so it has what the account tells
  pub told_of : (account : Account Rd W A) (report : Report Rd W A) → AreOwn (report_of account) → report.history.items ≡ account.history.items
      → (length report.links.items ≡ length account.links.items) × (length report.workers.items ≡ length account.workers.items)
      → map ends_of report.links.items ≡ map account_ends account.links.items
      → AreMade (length account.links.items + length account.links.items + length account.workers.items + 1) report.history.items (receipts_of report) → report.stats ≡ account.stats
      → Tells account report
  told_of account report own same many ends made stats =
      let count : length account.links.items + length account.links.items + length account.workers.items + 1 ≡ number_in (report_of account) House + 1 =
      omega (arith, length-map account.links.items (link_of account.links.alloc), length-map account.workers.items (vec_of account.links.alloc)) in
      record {
        history = same;
        many = many;
        ends = ends;
        receipts = same_receipts account report own same (subst (λ n. AreMade n report.history.items (receipts_of report)) count made);
        stats = stats;
      }

  module _ (account : Account Rd W A) (report : Report Rd W A) (told : Tells account report) where
    pub same_many : length report.links.items ≡ length (report_of account).links.items
    same_many = told.many.0 ∙ sym (length-map account.links.items (link_of account.links.alloc))

    pub same_ends : map ends_of report.links.items ≡ map ends_of (report_of account).links.items
    same_ends = told.ends ∙ sym (map-map ends_of (link_of account.links.alloc) account.links.items)

    -- a link of it is as the account tells it
    module _ (k : ℕ) (d : LinkReport Rd W A) (below : k < length report.links.items) where
      within : k < length (report_of account).links.items
      within = subst (λ n. k < n) same_many below

      pub link_ends : ends_of (get_or report.links.items k d) ≡ ends_of (get_or (report_of account).links.items k d)
      link_ends =
          sym (get_or-map ends_of report.links.items k d (ends_of d) below)
          ∙ (ap (λ (es : List (LinkEnds Rd W)). get_or es k (ends_of d)) same_ends ∙ get_or-map ends_of (report_of account).links.items k d (ends_of d) within)

      pub link_reading : (get_or report.links.items k d).reader_receipts.items ≡ (get_or (report_of account).links.items k d).reader_receipts.items
      link_reading =
          sym (at_reader report k d below)
          ∙ (ap (λ (ls : List (List (Receipt A))). get_or ls k []) told.receipts ∙ at_reader (report_of account) k d within)

      pub link_writing : (get_or report.links.items k d).writer_receipts.items ≡ (get_or (report_of account).links.items k d).writer_receipts.items
      link_writing =
          sym (at_writer report k (length report.links.items + k) d below refl)
          ∙ (ap (λ (ls : List (List (Receipt A))). get_or ls (length report.links.items + k) []) told.receipts
          ∙ at_writer (report_of account) k (length report.links.items + k) d within (ap (λ n. n + k) same_many))
