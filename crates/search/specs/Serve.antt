-- One search for many right sides, with the noted terms in slots: it stops as soon as every right side is noted, when a term has no slot
-- left, or when nothing is left to open.
use Rattle.std.specs.Prelude.{ℕ, suc, true, false, List, [], ◌∷◌, ◌++◌, length, drop, ltb}
use Rattle.std.proofs.Math.Option.{none, some}
use Rattle.terms.specs.Term.{Term, same}
use Rattle.search.specs.Law.{Law}
use Rattle.search.specs.Line.{Line, Limits, results}
use Rattle.search.specs.Search.{Noted, is_noted, entry, direct}
use Rattle.search.specs.Explore.{start}

-- the right sides that are not noted
unfoldable pub unnoted : List Term → List Noted → List Term
unfolding is_noted
unnoted [] noted = []
unnoted (t ∷ ts) noted = elim (is_noted t noted) [ true ↦ unnoted ts noted | false ↦ t ∷ unnoted ts noted ]

-- how many of the terms are one term
unfoldable pub times : Term → List Term → ℕ
unfolding same
times u [] = 0
times u (t ∷ ts) = elim (same t u) [ true ↦ suc (times u ts) | false ↦ times u ts ]

-- every right side is noted; a term has no slot left; all results of a term are taken
pub data Taking : Type 0 where
  all_noted : List Noted → Taking
  no_slot : List Noted → Taking
  taken : List Noted → Taking

-- each result not yet noted is noted in a slot
unfoldable pub take_results : (slots : ℕ) → List Term → List Line → List Line → List Noted → Taking
unfolding is_noted unnoted
take_results slots rights trail [] noted = taken noted
take_results slots rights trail (x ∷ xs) noted =
    elim (is_noted x.result noted) [
      | true ↦ take_results slots rights trail xs noted
      | false ↦ elim (ltb (length noted) slots) [
        | false ↦ no_slot noted
        | true ↦ elim (unnoted rights (noted ++ (entry trail x ∷ []))) [
          | [] ↦ all_noted (noted ++ (entry trail x ∷ []))
          | t ∷ ts ↦ take_results slots rights trail xs (noted ++ (entry trail x ∷ []))
        ]
      ]
    ]

-- why the search stopped: every right side is noted; nothing is left to open; a term has no slot left
pub data Stop : Type 0 where
  all over full : Stop

pub record Served : Type 0 where
  pub stop : Stop
  pub opened : ℕ
  pub noted : List Noted

abbrev pub stopped : Stop → ℕ → List Noted → Served
stopped s i noted = record { stop = s; opened = i; noted = noted }

-- `serve_on next steps slots rights fuel i noted`: as `explore`, up to the first reason to stop
unfoldable pub serve_on : (Term → List Line) → ℕ → ℕ → List Term → ℕ → ℕ → List Noted → Served
unfolding take_results
serve_on next steps slots rights ℕ.zero i noted = stopped over i noted
serve_on next steps slots rights (suc f) i noted =
    elim (drop i noted) [
      | [] ↦ stopped over i noted
      | x ∷ rest ↦ elim (ltb (length x.trail) steps) [
        | false ↦ stopped over i noted
        | true ↦ elim (take_results slots rights x.trail (next x.term) noted) [
          | all_noted ys ↦ stopped all (suc i) ys
          | no_slot ys ↦ stopped full (suc i) ys
          | taken ys ↦ serve_on next steps slots rights f (suc i) ys
        ]
      ]
    ]

-- a right side that matches directly is not waited for
unfoldable pub waited : List Law → Term → List Term → List Term
unfolding direct
waited ws left [] = []
waited ws left (t ∷ ts) = elim (direct ws left t) [ none ↦ t ∷ waited ws left ts | some n ↦ waited ws left ts ]

-- left is noted in the first slot, unless every right side matches directly
unfoldable pub serve : List Law → Limits → (slots : ℕ) → Term → List Term → Served
unfolding waited serve_on results
serve ws m slots left rights =
    elim (waited ws left rights) [
      | [] ↦ stopped all 0 []
      | t ∷ ts ↦ elim (ltb 0 slots) [
        | false ↦ stopped full 0 []
        | true ↦ serve_on (results ws m) m.steps slots (t ∷ ts) m.nodes 0 (start left)
      ]
    ]
