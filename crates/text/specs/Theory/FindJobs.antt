-- What is known of the jobs that FIND accepts: each is an accepted job by itself, and of several all have the same left side.
use Rattle.std.specs.Prelude.{ℕ, ◌≡◌, Bool, ◌&&◌, length, leb}
use Rattle.std.proofs.Math.Path.{refl}
use Rattle.std.proofs.Common.{⊎_elim, leb→le}
use Rattle.std.proofs.Math.Bool.{true, false, not}
use Rattle.std.proofs.Math.Option.{Option, none, some, bind as ◌then◌}
use mathlib.Core.List.{List, [], ◌∷◌, ◌++◌, map}
use Rattle.std.proofs.Math.Dec.{T}
use Rattle.terms.specs.Compare.{Ordering, lt, eq, gt}
use Rattle.terms.specs.Equation.{Equation, orient}
use Rattle.terms.specs.Lists.{◌∈◌, not-in-nil, cons-cases, of_map}
use Rattle.terms.specs.Term.{Term, size, order, same}
use Rattle.terms.specs.Letters.{letters}
use Rattle.terms.specs.Theory.Reflects.{both}
use Rattle.terms.specs.Theory.Order.{flip_gt}
use Rattle.terms.specs.Theory.TermOrder.{term_order, apart}
use Rattle.search.specs.Line.{Limits}
use Rattle.text.specs.TermText.{Readable, read_term}
use Rattle.text.specs.Answer.{Answer, ◌>>=◌, or_refuse}
use Rattle.text.specs.Job.{Job, in_range, few, oriented, Accepted}
use Rattle.text.specs.Theory.Readable.{If_some, Writes, read_writes}
use Rattle.text.specs.Theory.Accepted.{If_accepted, accepted_then, required_then}
use Rattle.text.specs.Theory.Jobs.{in_range_true, oriented_accepted, read_then}
use Rattle.text.specs.FindJob.{layouts, read_terms, every, comes_before, several, in_place, all_small, accept_each, read_find, job_of, jobs_of}

every_true : (p : Term → Bool) (ts : List Term) → T (every p ts) → (t : Term) → t ∈ ts → T (p t)
unfolding every
every_true p [] h t m = absurd (not-in-nil m)
every_true p (u ∷ us) h t m =
    let (first, rest) = both (p u) (every p us) h in
    ⊎_elim (λ (e : t ≡ u). rw e first) (every_true p us rest t) (cons-cases m)

abbrev AllReadable : List Term → Type 0
AllReadable ts = (t : Term) → t ∈ ts → Readable t

read_terms_readable : (bs : List (List ℕ)) → If_some AllReadable (read_terms bs)
unfolding read_terms ◌then◌
read_terms_readable [] = λ t m. absurd (not-in-nil m)
read_terms_readable (b ∷ bs) = go (read_term b) (read_writes b) (read_terms bs) (read_terms_readable bs)
  where
    go : (o : Option Term) → If_some (Writes b) o → (p : Option (List Term)) → If_some AllReadable p → If_some AllReadable (◌then◌ o (λ t. ◌then◌ p (λ ts. some (t ∷ ts))))
    go none h p k = tt
    go (some t) h none k = tt
    go (some t) h (some ts) k = λ u m. ⊎_elim (λ (e : u ≡ t). rw e h.0) (k u) (cons-cases m)

read_terms_then : {B : Type 0} (P : B → Type 0) (n : ℕ) (bs : List (List ℕ)) (f : List Term → Answer B) → ((ts : List Term) → AllReadable ts → If_accepted P (f ts))
    → If_accepted P (◌>>=◌ (or_refuse n (read_terms bs)) f)
unfolding ◌>>=◌ or_refuse
read_terms_then P n bs f h = go (read_terms bs) (read_terms_readable bs)
  where
    go : (o : Option (List Term)) → If_some AllReadable o → If_accepted P (◌>>=◌ (or_refuse n o) f)
    go none k = tt
    go (some ts) k = h ts k

-- an equation of left with one right side passes 3 to 6
pub record Passed (s t : Term) (m : Limits) : Type 0 where
  pub small_left : T (leb (size s) 31)
  pub small_right : T (leb (size t) 31)
  pub few : T (few (letters s ++ letters t))
  pub limits : T (in_range m)
  pub differ : T (not (same s t))

-- what is said of the equations that pass 3 to 6 and 10
pub accept_each_then : (s : Term) (m : Limits) (P : List Job → Type 0) (ts : List Term)
    → (((t : Term) → t ∈ ts → Passed s t m) → T (in_place s ts) → P (map (λ t. oriented s t m) ts)) → If_accepted P (accept_each s ts m)
unfolding accept_each
accept_each_then s m P ts h =
    required_then P 3 (leb (size s) 31 && all_small ts) _ λ small.
    required_then P 4 (every (λ t. few (letters s ++ letters t)) ts) _ λ lettered.
    required_then P 5 (in_range m) _ λ limits.
    required_then P 6 (every (λ t. not (same s t)) ts) _ λ differ.
    required_then P 10 (in_place s ts) _
    (h λ t i.
    let (small-s, small-ts) = both (leb (size s) 31) (all_small ts) small in
    record {
      small_left = small-s;
      small_right = every_true (λ t. leb (size t) 31) ts small-ts t i;
      few = every_true (λ t. few (letters s ++ letters t)) ts lettered t i;
      limits = limits;
      differ = every_true (λ t. not (same s t)) ts differ t i;
    })

abbrev pub AllAccepted : List Job → Type 0
AllAccepted js = (j : Job) → j ∈ js → Accepted j

-- each job passes refusals 1 to 6 by itself
pub jobs_accepted : (bs : List ℕ) → If_accepted AllAccepted (read_find bs)
unfolding read_find
jobs_accepted bs =
    required_then AllAccepted 1 (leb (length bs) 4096) _ λ _.
    accepted_then AllAccepted (or_refuse 1 (layouts bs)) _ λ l _.
    required_then AllAccepted 9 (leb (length l.rights) 16) _ λ _.
    read_then AllAccepted 2 l.left _ λ s read-s.
    read_terms_then AllAccepted 2 l.rights _ λ ts read-ts.
    accept_each_then s l.limits AllAccepted ts λ each _ j m.
    let (t, i, e) = of_map (λ t. oriented s t l.limits) ts m in
    let p = each t i in
    rw e at
    (oriented_accepted s t l.limits
    (record {
      small_left = leb→le (size s) 31 p.small_left;
      small_right = leb→le (size t) 31 p.small_right;
      few = leb→le _ 6 p.few;
      readable_left = read-s;
      readable_right = read-ts t i;
    })
    (in_range_true l.limits p.limits) (apart p.differ))

-- left stays left where right does not come before it
kept_left : (s t : Term) (m : Limits) → T (not (comes_before t s)) → oriented s t m ≡ job_of s m t
unfolding oriented orient comes_before
kept_left s t m after = go (order s t) refl
  where
    sides : Ordering → Job
    sides o =
        let e : Equation Term = elim o [ lt ↦ record { left = s; right = t } | eq ↦ record { left = s; right = t } | gt ↦ record { left = t; right = s } ] in
        record { left = e.left; right = e.right; limits = m }

    low : Ordering → Bool
    low o = elim o [ lt ↦ true | eq ↦ false | gt ↦ false ]

    out : (o : Ordering) → o ≡ lt → T (not (low o)) → ⊥
    out o e h = rw e at h

    go : (o : Ordering) → order s t ≡ o → ◌≡◌ {A = Job} (sides o) (job_of s m t)
    go lt e = refl
    go eq e = refl
    go gt e = absurd (out (order t s) (flip_gt term_order {x = s} {y = t} e) after)

module _ (s : Term) (m : Limits) where
  -- likewise where none of the right sides does
  pub all_kept : (ts : List Term) → T (every (λ t. not (comes_before t s)) ts) → map (λ t. oriented s t m) ts ≡ jobs_of s ts m
  unfolding every
  all_kept [] after = refl
  all_kept (t ∷ ts) after =
      let (first, rest) = both (not (comes_before t s)) (every (λ t. not (comes_before t s)) ts) after in
      rw (kept_left s t m first, all_kept ts rest)

  several_kept : (ts : List Term) → T (several ts) → T (in_place s ts) → map (λ t. oriented s t m) ts ≡ jobs_of s ts m
  unfolding in_place
  several_kept ts many placed = all_kept ts (go (several ts) many placed)
    where
      go : (b : Bool) → T b → T (elim b [ true ↦ every (λ t. not (comes_before t s)) ts | false ↦ true ]) → T (every (λ t. not (comes_before t s)) ts)
      go true h k = k
      go false h k = absurd h

  -- of several right sides left stays left
  pub several_as_written : (ts : List Term) → T (several ts) → If_accepted (λ js. js ≡ jobs_of s ts m) (accept_each s ts m)
  several_as_written ts many = accept_each_then s m (λ js. js ≡ jobs_of s ts m) ts (λ _. several_kept ts many)
