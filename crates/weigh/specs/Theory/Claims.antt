-- The claims hold of every answer of WEIGH's search, for any laws, any weights of at least 1 and any word rule that the laws respect.
use Rattle.std.specs.Prelude.{ℕ, ◌≤◌, ◌<◌, ◌≡◌, refl, ◌↔◌, ◌⊎◌, Bool, true, false, List, [], ◌∷◌, length, ltb}
use Rattle.std.proofs.Common.{arith, sym, ⊎_elim}
use Rattle.std.proofs.Math.Logic.{inl, inr}
use Rattle.std.proofs.lemmas.Bool.{false≢true}
use Rattle.std.proofs.Math.Option.{Option, none, some}
use Rattle.terms.specs.Term.{Term}
use Rattle.terms.specs.Theory.Reflects.{Reflects}
use Rattle.words.specs.Words.{Word, words}
use Rattle.search.specs.Law.{Law, semiring}
use Rattle.search.specs.Line.{Line, Limits}
use Rattle.search.specs.Path.{Searchable, Path}
use Rattle.search.specs.Claims.{Respects}
use Rattle.search.specs.Theory.Words.{path_keeps}
use Rattle.search.specs.Theory.Claims.{path_map, path_positive}
use Rattle.search.specs.Theory.Respect.{semiring_respected}
use Rattle.weigh.specs.Weigh.{Weights, weight, Weighed, Turn, ends, arrives, opens, turn, opened_count, left_unopened, weighed}
use Rattle.weigh.specs.Outcome.{Outcome, proved, atmost, unproved, Returns, by_proved, by_atmost, expanded, noted, held, without_path, in_hand, outcome, weigh}
use Rattle.weigh.specs.Claims.{Heavy, Reachable, None, LeftUnopened, WeighClaims}
use Rattle.weigh.specs.Hand.{Noted}
use Rattle.weigh.specs.Theory.Least.{Leads, Turned, turn_is}
use Rattle.weigh.specs.Theory.State.{opened_or_not}
use Rattle.weigh.specs.Theory.Spread.{Met, left_unopened_reflects}
use Rattle.weigh.specs.Theory.Held.{IsHeld, held_is}
use Rattle.weigh.specs.Theory.Final.{ended, Found, found, InHand, in_hand_is, unreached, cut_by_count, Counted, counted_all, counted_full}

-- a searchable path's ends have the same words
pub searchable_keeps : {ws : List Law} {W : Type 0} {words : Term → W} → Respects ws W words → {m : Limits} {s t : Term} {xs : List Line}
    → Path (Searchable ws m) s xs t → words s ≡ words t
searchable_keeps respects path = path_keeps respects (path_map (λ s x h. h.usable.line) path)

-- a path has at most as many lines as it weighs
pub weight_lines : (w : Weights) → Heavy w → (xs : List Line) → length xs ≤ weight w xs
unfolding weight
weight_lines w heavy [] = omega arith
weight_lines w heavy (x ∷ xs) = omega (arith, heavy x.law, weight_lines w heavy xs)

-- an outcome counts the terms noted, and those of them that were opened
pub outcome_counts : (right : Term) (es : List Weighed) → (noted (outcome right es) ≡ length es) × (expanded (outcome right es) ≡ opened_count es)
unfolding outcome without_path in_hand
outcome_counts right es = go (turn right es)
  where
    limited : (x : Weighed) (o : Option Weighed)
        → (noted (elim o [ none ↦ without_path es | some z ↦ atmost z.trail x.total (opened_count es) (length es) ]) ≡ length es)
        × (expanded (elim o [ none ↦ without_path es | some z ↦ atmost z.trail x.total (opened_count es) (length es) ]) ≡ opened_count es)
    limited x none = (refl, refl)
    limited x (some z) = (refl, refl)

    go : (t : Turn)
        → (noted (elim t [ ends ↦ without_path es | arrives x ↦ proved x.trail (opened_count es) (length es) | opens x ↦ in_hand right x es ]) ≡ length es)
        × (expanded (elim t [ ends ↦ without_path es | arrives x ↦ proved x.trail (opened_count es) (length es) | opens x ↦ in_hand right x es ]) ≡ opened_count es)
    go ends = (refl, refl)
    go (arrives x) = (refl, refl)
    go (opens x) = limited x (held right es)

module _ (ws : List Law) (w : Weights) (heavy : Heavy w) (cost : ℕ) (m : Limits) (left right : Term) where
  abbrev final : List Weighed
  final = weighed ws w cost m left right

  pub record Stopped (e n : ℕ) (c : Bool) : Type 0 where
    pub counted : Counted ws w heavy cost m left right e
    pub why : (e ≡ m.nodes) ⊎ ((ys : List Line) → Path (Searchable ws m) left ys right → cost < weight w ys)
    pub cut : Reflects (LeftUnopened final) c
    pub cut_count : (ts : List Term) → Reachable ws w cost m left ts → c ≡ ltb m.nodes (length ts)
    pub uncut : c ≡ false → (ys : List Line) → Path (Searchable ws m) left ys right → cost < weight w ys
    pub unknown : Noted final right → ⊥

  left_open : (c : Bool) → Reflects (LeftUnopened final) c → c ≡ false → LeftUnopened final → ⊥
  left_open true h e k = false≢true (sym e)
  left_open false h e k = h k

  abbrev pub Reply : Outcome → Type 0
  Reply (proved xs e n) = Found ws w heavy cost m left right xs
  Reply (atmost xs l e n) = InHand ws w heavy cost m left right xs l e
  Reply (unproved e n c) = Stopped e n c

  -- no more may be opened where x leads
  run_out : (x : Weighed) → Leads final x → (x.term ≡ right → ⊥) → opened_count final ≡ m.nodes → Reply (in_hand right x final)
  unfolding in_hand without_path
  run_out x leads other met = go (held right final) (held_is right final)
    where
      go : (o : Option Weighed) → IsHeld right final o
          → Reply (elim o [ none ↦ without_path final | some z ↦ atmost z.trail x.total (opened_count final) (length final) ])
      go (some z) h = in_hand_is ws w heavy cost m left right x leads other met z h
      go none h =
          record {
            counted = counted_full ws w heavy cost m left right met;
            why = inl met;
            cut = left_unopened_reflects final;
            cut_count = cut_by_count ws w heavy cost m left right (left_unopened final) (left_unopened_reflects final) (inr met);
            uncut = λ e. absurd (left_open (left_unopened final) (left_unopened_reflects final) e (x, leads.0, leads.1));
            unknown = h;
          }

  pub replies : Reply (weigh ws w cost m left right)
  unfolding weigh outcome without_path
  replies = go (turn right final) (turn_is right final) (ended ws w heavy cost m left right).met
    where
      go : (t : Turn) → Turned right final t → Met t m.nodes (opened_count final)
          → Reply (elim t [
            | ends ↦ without_path final
            | arrives x ↦ proved x.trail (opened_count final) (length final)
            | opens x ↦ in_hand right x final
          ])
      go ends h met =
          record {
            counted = counted_all ws w heavy cost m left right h;
            why = inr (unreached ws w heavy cost m left right h);
            cut = left_unopened_reflects final;
            cut_count = cut_by_count ws w heavy cost m left right (left_unopened final) (left_unopened_reflects final) (inl h);
            uncut = λ e. unreached ws w heavy cost m left right h;
            unknown = λ (z, (i, e)). ⊎_elim (λ o. (ended ws w heavy cost m left right).state.free z i o e) (λ o. h z i o) (opened_or_not z.opened);
          }
      go (arrives x) (leads, e) met = found ws w heavy cost m left right x leads e
      go (opens x) (leads, other) met = run_out x leads other met

  none_exactly : (o : Outcome) → Reply o → expanded o < m.nodes
      → None o ↔ ((ys : List Line) → Path (Searchable ws m) left ys right → cost < weight w ys)
  none_exactly (proved xs e n) f below = (λ (a, b, c, p). absurd (false≢true cc), λ h. absurd (omega (arith, h xs f.path, f.allowed)))
  none_exactly (atmost xs l e n) f below = absurd (omega (arith, f.limit))
  none_exactly (unproved e n c) s below = (λ _. go s.why, λ h. (e, n, c, refl))
    where
      go : (e ≡ m.nodes) ⊎ ((ys : List Line) → Path (Searchable ws m) left ys right → cost < weight w ys)
          → (ys : List Line) → Path (Searchable ws m) left ys right → cost < weight w ys
      go (inl full) = absurd (omega arith)
      go (inr h) = h

  pub cut_exactly : (c : Bool) → Reflects (LeftUnopened final) c → (c ≡ true) ↔ LeftUnopened final
  cut_exactly true h = (λ e. h, λ k. refl)
  cut_exactly false h = (λ e. absurd (false≢true e), λ k. absurd (h k))

  -- the lines of a proved answer are searchable, and weigh no more than those of any such path
  pub proved_lightest : (xs : List Line) (e n : ℕ) → weigh ws w cost m left right ≡ proved xs e n
      → Path (Searchable ws m) left xs right × ((ys : List Line) → Path (Searchable ws m) left ys right → weight w xs ≤ weight w ys)
  proved_lightest xs e n eq = let f : Found ws w heavy cost m left right xs = rw eq at replies in (f.path, f.least)

  -- the path that is returned weighs at most cost, and has at most as many lines
  returned : (o : Outcome) → Reply o → (xs : List Line) → Returns o xs → Path (Searchable ws m) left xs right × (weight w xs ≤ cost)
  returned (proved xs e n) f ys by_proved = (f.path, f.allowed)
  returned (atmost xs l e n) f ys by_atmost = (f.path, f.allowed)
  returned (unproved e n c) f ys r = elim r [ ]

  pub returned_path : (xs : List Line) → Returns (weigh ws w cost m left right) xs → Path (Searchable ws m) left xs right × (weight w xs ≤ cost)
  returned_path xs r = returned (weigh ws w cost m left right) replies xs r

  pub returned_short : (xs : List Line) → Returns (weigh ws w cost m left right) xs → length xs ≤ cost
  returned_short xs r = let (path, allowed) = returned_path xs r in omega (arith, allowed, weight_lines w heavy xs)

weigh_counts : (ws : List Law) (w : Weights) (cost : ℕ) (m : Limits) (left right : Term)
    → (noted (weigh ws w cost m left right) ≡ length (weighed ws w cost m left right))
    × (expanded (weigh ws w cost m left right) ≡ opened_count (weighed ws w cost m left right))
unfolding weigh
weigh_counts ws w cost m left right = outcome_counts right (weighed ws w cost m left right)

pub weigh_claims : (ws : List Law) (W : Type 0) (words : Term → W) → Respects ws W words → (w : Weights) → Heavy w → (cost : ℕ) (m : Limits)
    (left right : Term) → (left ≡ right → ⊥) → WeighClaims ws W words w cost m left right
weigh_claims ws W words respects w heavy cost m left right differ =
    record {
      path = λ xs r. let (path, allowed) = returned_path ws w heavy cost m left right xs r in
          (path, path_positive path differ, searchable_keeps respects path, allowed);
      lightest = λ xs ys e n eq p. let f : Found ws w heavy cost m left right xs = rw eq at reply in f.least ys p;
      complete = none_exactly ws w heavy cost m left right (weigh ws w cost m left right) reply;
      counts = weigh_counts ws w cost m left right;
      few = omega (arith, (weigh_counts ws w cost m left right).1, (ended ws w heavy cost m left right).most);
      opened = λ e n c eq. let s : Stopped ws w heavy cost m left right e n c = rw eq at reply in s.counted;
      cut = λ e n c eq. let s : Stopped ws w heavy cost m left right e n c = rw eq at reply in cut_exactly ws w heavy cost m left right c s.cut;
      cut_count = λ e n c eq. let s : Stopped ws w heavy cost m left right e n c = rw eq at reply in s.cut_count;
      uncut = λ e n eq. let s : Stopped ws w heavy cost m left right e n false = rw eq at reply in s.uncut refl;
    }
  where
    reply : Reply ws w heavy cost m left right (weigh ws w cost m left right)
    reply = replies ws w heavy cost m left right

-- the ten laws and the words of a term
pub semiring_weigh_claims : (w : Weights) → Heavy w → (cost : ℕ) (m : Limits) (left right : Term) → (left ≡ right → ⊥)
    → WeighClaims semiring (List Word) words w cost m left right
semiring_weigh_claims = weigh_claims semiring (List Word) words semiring_respected
