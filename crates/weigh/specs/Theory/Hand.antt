-- What is claimed where nodes run out holds of every search of WEIGH, for any laws and any weights of at least 1.
use Rattle.std.specs.Prelude.{ℕ, ◌+◌, ◌≤◌, ◌≡◌, refl, ◌↔◌, Bool, true, false, List, [], ◌∷◌, ◌++◌, length}
use Rattle.std.proofs.Common.{arith, sym, ◌∙◌, ap, subst, ⊎_elim}
use Rattle.std.proofs.lemmas.Bool.{false≢true}
use Rattle.std.proofs.Math.Option.{Option, none, some}
use Rattle.terms.specs.Term.{Term}
use Rattle.terms.specs.Theory.Reflects.{Reflects}
use Rattle.search.specs.Law.{Law}
use Rattle.search.specs.Line.{Line, Limits}
use Rattle.search.specs.Path.{Searchable, Path}
use Rattle.search.specs.Theory.Claims.{path_map}
use Rattle.weigh.specs.Weigh.{Weights, weight, Weighed, ends, arrives, opens, turn, opened_count, left_unopened, weighed}
use Rattle.weigh.specs.Outcome.{Outcome, proved, atmost, unproved, Returns, by_proved, by_atmost, held, without_path, in_hand, outcome, weigh}
use Rattle.weigh.specs.Claims.{Heavy, None, LeftUnopened}
use Rattle.weigh.specs.Hand.{Proved, AtMost, Noted, FewerNodes, HandClaims}
use Rattle.weigh.specs.Theory.Least.{before_lt, Turned, turn_is}
use Rattle.weigh.specs.Theory.State.{opened_or_not, last_weight, last_snoc}
use Rattle.weigh.specs.Theory.Noting.{Near, same_entry}
use Rattle.weigh.specs.Theory.Spread.{left_unopened_reflects}
use Rattle.weigh.specs.Theory.Final.{ended, InHand}
use Rattle.weigh.specs.Theory.Claims.{Reply, replies}
use Rattle.weigh.specs.Theory.More.{same_lines, weighed_near, weighed_stays}

module _ (ws : List Law) (w : Weights) (heavy : Heavy w) (cost : ℕ) (left right : Term) where
  abbrev final : Limits → List Weighed
  final m = weighed ws w cost m left right

  abbrev answer : Limits → Outcome
  answer m = weigh ws w cost m left right

  abbrev Says : Limits → Outcome → Type 0
  Says m o = Reply ws w heavy cost m left right o

  reply : (m : Limits) → Says m (answer m)
  reply m = replies ws w heavy cost m left right

  hand : (m : Limits) (xs : List Line) (l e n : ℕ) → answer m ≡ atmost xs l e n → InHand ws w heavy cost m left right xs l e
  hand m xs l e n eq = rw eq at (reply m)

  small : (m : Limits) (xs : List Line) (l e : ℕ) → InHand ws w heavy cost m left right xs l e → weight w xs ≤ l + last_weight w xs
  small m xs l e f =
      let (z, (i, p), t, u) = f.held in
      let (x, j, o, q) = f.smallest.one in
      let h = subst (λ zs. z.total ≤ x.total + last_weight w zs) t ((ended ws w heavy cost m left right).state.last z x i j o) in
      omega (arith, h, u, q)

  in_hand_exactly : (m : Limits) (o : Outcome) → Says m o → (Proved o → ⊥) → AtMost o ↔ Noted (final m) right
  in_hand_exactly m (proved xs e n) f h = absurd (h (xs, e, n, refl))
  in_hand_exactly m (atmost xs l e n) f h = (λ k. let (z, holds, trail, total) = f.held in (z, holds), λ k. (xs, l, e, n, refl))
  in_hand_exactly m (unproved e n c) f h = (λ (a, b, c, d, p). absurd (false≢true cc), λ k. absurd (f.unknown k))

  none_unknown : (m : Limits) (o : Outcome) → Says m o → None o → Noted (final m) right → ⊥
  none_unknown m (proved xs e n) f (a, b, c, p) = absurd (false≢true cc)
  none_unknown m (atmost xs l e n) f (a, b, c, p) = absurd (false≢true cc)
  none_unknown m (unproved e n c) f h = f.unknown

  -- what a search that may open more finds, where right is noted with a path of at most so much
  module _ (k : Limits) (l h : ℕ) (near : Near (final k) right h) (bound : (ys : List Line) → Path (Searchable ws k) left ys right → l ≤ weight w ys) where
    abbrev Gains : Outcome → Type 0
    Gains o = (ys : List Line) × Returns o ys × (l ≤ weight w ys) × (weight w ys ≤ h)

    gains : (o : Outcome) → Says k o → Gains o
    gains (proved ys e n) f =
        let (z, i, p, q) = near in
        let s = (ended ws w heavy cost k left right).state in
        (ys, by_proved, bound ys f.path, omega (arith, f.least z.trail (rw p at (s.trail z i)), s.total z i))
    gains (atmost ys b e n) f =
        let (z, i, p, q) = near in
        let (y, (j, r), t, u) = f.held in
        let s = (ended ws w heavy cost k left right).state in
        let same = same_entry (final k) s.distinct z y i j (p ∙ sym r) in
        (ys, by_atmost, bound ys f.path, omega (arith, ap (λ x. x.total) same, u))
    gains (unproved e n c) f = let (z, i, p, q) = near in absurd (f.unknown (z, (i, p)))

  gain : (m k : Limits) → FewerNodes m k → (xs : List Line) (l e n : ℕ) → answer m ≡ atmost xs l e n
      → (ys : List Line) × Returns (answer k) ys × (l ≤ weight w ys) × (weight w ys ≤ weight w xs)
  gain m k more xs l e n eq =
      let f = hand m xs l e n eq in
      let (z, (i, p), t, u) = f.held in
      gains k l (weight w xs) (weighed_near ws w heavy cost m k more left right right (weight w xs) (z, i, p, omega (arith, u)))
      (λ ys path. f.none_lighter ys (path_map (same_lines (sym more.size) (sym more.depth)) path))
      (answer k) (reply k)

  -- where a term would be opened next the answer is an atmost, or a none that is cut
  module _ (m : Limits) (x : Weighed) (next : turn right (final m) ≡ opens x) where
    waits : left_unopened (final m) ≡ true
    waits = go (left_unopened (final m)) (left_unopened_reflects (final m))
      where
        leads : Turned right (final m) (opens x)
        leads = rw next at (turn_is right (final m))

        go : (b : Bool) → Reflects (LeftUnopened (final m)) b → b ≡ true
        go true h = refl
        go false h = absurd (h (x, leads.0.0, leads.0.1))

    abbrev Runs : Outcome → Type 0
    Runs (proved xs e n) = ⊥
    Runs (atmost xs l e n) = Unit {0}
    Runs (unproved e n c) = c ≡ true

    runs_out : Runs (answer m)
    unfolding weigh outcome in_hand without_path
    runs_out =
        subst (λ t. Runs (elim t [
          | ends ↦ without_path (final m)
          | arrives y ↦ proved y.trail (opened_count (final m)) (length (final m))
          | opens y ↦ in_hand right y (final m)
        ])) (sym next) (go (held right (final m)))
      where
        go : (o : Option Weighed)
            → Runs (elim o [ none ↦ without_path (final m) | some z ↦ atmost z.trail x.total (opened_count (final m)) (length (final m)) ])
        go none = waits
        go (some z) = tt

  stays : (m k : Limits) → FewerNodes m k → ((x : Weighed) → turn right (final m) ≡ opens x → ⊥) → answer k ≡ answer m
  unfolding weigh
  stays m k more h = ap (outcome right) (weighed_stays ws w heavy cost m k more left right h)

  proved_stays : (m k : Limits) → FewerNodes m k → (xs : List Line) (e n : ℕ) → answer m ≡ proved xs e n → answer k ≡ proved xs e n
  proved_stays m k more xs e n eq = stays m k more (λ x p. rw eq at (runs_out m x p)) ∙ eq

  none_stays : (m k : Limits) → FewerNodes m k → (e n : ℕ) → answer m ≡ unproved e n false → answer k ≡ unproved e n false
  none_stays m k more e n eq = stays m k more (λ x p. false≢true (rw eq at (runs_out m x p))) ∙ eq

  pub hand_claims : (m : Limits) → HandClaims ws w cost m left right
  hand_claims m =
      record {
        held = λ xs l e n eq. let (z, holds, trail, total) = (hand m xs l e n eq).held in (z, holds, trail);
        limit = λ xs l e n eq. (hand m xs l e n eq).limit;
        before = λ xs l e n eq z (i, p).
            let (x, leads, other) = (hand m xs l e n eq).next in
            let o = ⊎_elim (λ o. absurd ((ended ws w heavy cost m left right).state.free z i o p)) (λ o. o) (opened_or_not z.opened) in
            (x, leads.0, leads.1, before_lt x z (leads.2 z i o) (λ q. other (q ∙ p)));
        atleast = λ xs l e n eq. (hand m xs l e n eq).smallest;
        none_lighter = λ xs ys l e n eq path. (hand m xs l e n eq).none_lighter ys path;
        within = λ xs l e n eq. let f = hand m xs l e n eq in f.none_lighter xs f.path;
        near = λ xs ys l e n eq path. let f = hand m xs l e n eq in omega (arith, f.none_lighter ys path);
        small = λ ys y l e n eq. omega (arith, small m (ys ++ (y ∷ [])) l e (hand m (ys ++ (y ∷ [])) l e n eq), last_snoc w ys y);
        in_hand = in_hand_exactly m (answer m) (reply m);
        never_noted = λ none k fewer (z, (i, p)).
            let (y, j, q, h) = weighed_near ws w heavy cost k m fewer left right right z.total (z, i, p, omega arith) in
            none_unknown m (answer m) (reply m) none (y, (j, q));
        gain = λ xs l e n eq k more. gain m k more xs l e n eq;
        proved_stays = λ xs e n eq k more. proved_stays m k more xs e n eq;
        none_stays = λ e n eq k more. none_stays m k more e n eq;
      }
