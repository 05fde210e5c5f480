-- The one search for many right sides, taken turn by turn.
use Prim.Native.Nat.{ℕ, suc, ◌+◌, ◌≤◌, ◌<◌}
use native.Mathlib.Omega.{arith}
use native.Mathlib.Numerals.{add-one}
use mathlib.Core.Path.{◌≡◌, refl, sym, ap, ◌∙◌}
use mathlib.Core.Bool.{Bool, true, false}
use mathlib.Core.List.{List, [], ◌∷◌, ◌++◌}
use borrow.Author.Tests.{lt-ltb, le-ltb}
use lib.ListN.{length, drop, drop_of_length-le}
use lib.Seq.{drop-cons}
use lib.Dec.{ltb}
use Rattle.terms.specs.Lists.{◌∈◌, here, there}
use Rattle.terms.specs.Term.{Term, zero, same}
use Rattle.terms.specs.Theory.TermOrder.{told_apart}
use Rattle.search.specs.Line.{Line}
use Rattle.search.specs.Search.{Noted, is_noted, entry}
use Rattle.search.specs.Explore.{start}
use Rattle.search.specs.Serve.{unnoted, times, Taking, all_noted, no_slot, taken, take_results, all, over, full, Served, stopped, serve_on}
use Rattle.search.specs.Runs.{origin_of}
use Rattle.search.specs.Slots.{noted_at, Comes, Leads, Slots}
use Rattle.search.specs.Ordered.{unknown}
use Rattle.search.specs.declared.slots.Step.{Step}
use Rattle.search.specs.declared.slots.Origin.{Origin}
use Rattle.search.specs.declared.slots.Origin.TheVariants.{Start, From}
use Rattle.search.specs.Theory.Stands.{stands_at}
use Rattle.search.specs.Theory.LookUp.{Meets}
use Rattle.search.proofs.Unknown.{told, unknown_in, unknown_out, still_noted, now_noted}

-- the results of one term, one after another
module _ (slots : ℕ) (rights : List Term) (trail : List Line) (x : Line) (xs : List Line) (ns : List Noted) where
  take_known : is_noted x.result ns ≡ true → take_results slots rights trail (x ∷ xs) ns ≡ take_results slots rights trail xs ns
  unfolding take_results
  take_known e = rw (e, take_results)

  module _ (e : is_noted x.result ns ≡ false) where
    pub take_full : slots ≤ length ns → take_results slots rights trail (x ∷ xs) ns ≡ no_slot ns
    unfolding take_results
    take_full h = rw (e, le-ltb (length ns) slots h, take_results)

    module _ (h : length ns < slots) where
      abbrev more : List Noted
      more = ns ++ (entry trail x ∷ [])

      -- by the right sides that are left
      abbrev turned : List Term → Taking
      turned ts = elim ts [ [] ↦ all_noted more | t ∷ ts ↦ take_results slots rights trail xs more ]

      pub take_last : length (unnoted rights more) ≡ 0 → take_results slots rights trail (x ∷ xs) ns ≡ all_noted more
      unfolding take_results
      take_last q = rw (e, lt-ltb (length ns) slots h, take_results) (go (unnoted rights more) q)
        where
          go : (ts : List Term) → length ts ≡ 0 → turned ts ≡ all_noted more
          go [] q = refl
          go (t ∷ ts) q = absurd (omega arith)

      pub take_new : 0 < length (unnoted rights more) → take_results slots rights trail (x ∷ xs) ns ≡ take_results slots rights trail xs more
      unfolding take_results
      take_new q = rw (e, lt-ltb (length ns) slots h, take_results) (go (unnoted rights more) q)
        where
          go : (ts : List Term) → 0 < length ts → turned ts ≡ take_results slots rights trail xs more
          go [] q = absurd (omega arith)
          go (t ∷ ts) q = refl

-- what a search does after a turn, the i-th
module _ (next : Term → List Line) (steps slots : ℕ) (rights : List Term) where
  abbrev pub after : ℕ → ℕ → Taking → Served
  after f i (all_noted ys) = stopped all i ys
  after f i (no_slot ys) = stopped full i ys
  after f i (taken ys) = serve_on next steps slots rights f i ys

  follows : (f i : ℕ) (t : Taking)
      → elim t [ all_noted ys ↦ stopped all i ys | no_slot ys ↦ stopped full i ys | taken ys ↦ serve_on next steps slots rights f i ys ] ≡ after f i t
  follows f i (all_noted ys) = refl
  follows f i (no_slot ys) = refl
  follows f i (taken ys) = refl

  module _ (i : ℕ) (ns : List Noted) where
    pub serve_limit : (f : ℕ) → f ≡ 0 → serve_on next steps slots rights f i ns ≡ stopped over i ns
    unfolding serve_on
    serve_limit f e = rw e

    pub serve_end : (f : ℕ) → length ns ≤ i → serve_on next steps slots rights f i ns ≡ stopped over i ns
    unfolding serve_on
    serve_end ℕ.zero h = refl
    serve_end (suc f) h = rw (drop_of_length-le ns h, serve_on)

    module _ (h : i < length ns) where
      next_in_turn : drop i ns ≡ noted_at ns i ∷ drop (suc i) ns
      next_in_turn = drop-cons ns i (record { term = zero; trail = [] }) h

      pub serve_far : (f : ℕ) → steps ≤ length (noted_at ns i).trail → serve_on next steps slots rights f i ns ≡ stopped over i ns
      unfolding serve_on
      serve_far ℕ.zero far = refl
      serve_far (suc f) far = rw (next_in_turn, le-ltb (length (noted_at ns i).trail) steps, serve_on)

      pub serve_opens : (f g : ℕ) → f ≡ suc g → length (noted_at ns i).trail < steps
          → serve_on next steps slots rights f i ns
          ≡ after g (i + 1) (take_results slots rights (noted_at ns i).trail (next (noted_at ns i).term) ns)
      unfolding serve_on
      serve_opens f g e near =
          ap (λ k. serve_on next steps slots rights k i ns) e
          ∙ rw (next_in_turn, lt-ltb (length (noted_at ns i).trail) steps, serve_on, add-one)
          (follows g (suc i) (take_results slots rights (noted_at ns i).trail (next (noted_at ns i).term) ns))

module _ (t : Term) (ts : List Term) (ns : List Noted) where
  pub unnoted_out : is_noted t ns ≡ true → unnoted (t ∷ ts) ns ≡ unnoted ts ns
  unfolding unnoted
  unnoted_out e = rw (e, unnoted)

  pub unnoted_in : is_noted t ns ≡ false → unnoted (t ∷ ts) ns ≡ t ∷ unnoted ts ns
  unfolding unnoted
  unnoted_in e = rw (e, unnoted)

-- the right sides other than a term
unfoldable others : Term → List Term → List Term
unfolding same
others u [] = []
others u (t ∷ ts) = elim (same t u) [ true ↦ others u ts | false ↦ t ∷ others u ts ]

module _ (u t : Term) (ts : List Term) where
  others_out : same t u ≡ true → others u (t ∷ ts) ≡ others u ts
  unfolding others
  others_out e = rw (e, others)

  others_in : same t u ≡ false → others u (t ∷ ts) ≡ t ∷ others u ts
  unfolding others
  others_in e = rw (e, others)

-- noting a term strikes it from the right sides that are not noted
unnoted_more : (rights : List Term) (n : Noted) (ns : List Noted) → unnoted rights (ns ++ (n ∷ [])) ≡ others n.term (unnoted rights ns)
unfolding unnoted others
unnoted_more [] n ns = refl
unnoted_more (t ∷ ts) n ns =
    let u = n.term in
    let more = ns ++ (n ∷ []) in
    told (is_noted t ns)
    (λ e. unnoted_out t ts more (still_noted t n ns e) ∙ unnoted_more ts n ns ∙ ap (others u) (sym (unnoted_out t ts ns e)))
    (λ e.
    told (same t u)
    (λ q.
    unnoted_out t ts more (now_noted t n ns e ∙ q)
    ∙ unnoted_more ts n ns
    ∙ sym (ap (others u) (unnoted_in t ts ns e) ∙ others_out u t (unnoted ts ns) q))
    (λ q.
    unnoted_in t ts more (now_noted t n ns e ∙ q)
    ∙ ap (λ l. t ∷ l) (unnoted_more ts n ns)
    ∙ sym (ap (others u) (unnoted_in t ts ns e) ∙ others_in u t (unnoted ts ns) q)))

-- how many right sides a noted term strikes

module _ (u t : Term) (ts : List Term) where
  pub times_here : same t u ≡ true → times u (t ∷ ts) ≡ suc (times u ts)
  unfolding times
  times_here e = rw (e, times)

  pub times_there : same t u ≡ false → times u (t ∷ ts) ≡ times u ts
  unfolding times
  times_there e = rw (e, times)

others_times : (u : Term) (ts : List Term) → length (others u ts) + times u ts ≡ length ts
unfolding others times
others_times u [] = refl
others_times u (t ∷ ts) =
    told (same t u)
    (λ q. rw (others_out u t ts q, times_here u t ts q) (omega (arith, others_times u ts)))
    (λ q. rw (others_in u t ts q, times_there u t ts q) (omega (arith, others_times u ts)))

-- a noted term strikes as many as are equal to it
pub unnoted_struck : (ts : List Term) (n : Noted) (ns : List Noted)
    → length (unnoted ts (ns ++ (n ∷ []))) + times n.term (unnoted ts ns) ≡ length (unnoted ts ns)
unnoted_struck ts n ns = rw (unnoted_more ts n ns) (others_times n.term (unnoted ts ns))

-- where left alone is noted, all right sides are left
pub unnoted_start : (s : Term) (ts : List Term) → (s ∈ ts → ⊥) → unnoted ts (start s) ≡ ts
unfolding unnoted is_noted
unnoted_start s [] h = refl
unnoted_start s (t ∷ ts) h =
    unnoted_in t ts (start s) (rw (told_apart t s (λ e. h (here (sym e))), is_noted)) ∙ ap (λ l. t ∷ l) (unnoted_start s ts (λ m. h (there m)))

-- a result that is noted before any is taken is passed over in its turn
module _ (slots : ℕ) (rights : List Term) (trail : List Line) (ns : List Noted) where
  pub take_unknown : (xs : List Line) (ys : List Noted) → ((t : Term) → is_noted t ns ≡ true → is_noted t ys ≡ true)
      → take_results slots rights trail (unknown ns xs) ys ≡ take_results slots rights trail xs ys
  unfolding take_results unknown
  take_unknown [] ys h = refl
  take_unknown (x ∷ xs) ys h =
      told (is_noted x.result ns)
      (λ e.
      ap (λ l. take_results slots rights trail l ys) (unknown_out ns x xs e)
      ∙ take_unknown xs ys h
      ∙ sym (take_known slots rights trail x xs ys (h x.result e)))
      (λ e.
      ap (λ l. take_results slots rights trail l ys) (unknown_in ns x xs e)
      ∙ go (is_noted x.result ys) (ltb (length ys) slots) (unnoted rights (ys ++ (entry trail x ∷ []))) (take_unknown xs ys h)
      (take_unknown xs (ys ++ (entry trail x ∷ [])) (λ t k. still_noted t (entry trail x) ys (h t k))))
    where
      more : List Noted
      more = ys ++ (entry trail x ∷ [])

      turn : Bool → Bool → List Term → List Line → Taking
      turn b c ts zs =
          elim b [
            | true ↦ take_results slots rights trail zs ys
            | false ↦ elim c [ false ↦ no_slot ys | true ↦ elim ts [ [] ↦ all_noted more | t ∷ ts ↦ take_results slots rights trail zs more ] ]
          ]

      go : (b c : Bool) (ts : List Term) → take_results slots rights trail (unknown ns xs) ys ≡ take_results slots rights trail xs ys
          → take_results slots rights trail (unknown ns xs) more ≡ take_results slots rights trail xs more → turn b c ts (unknown ns xs) ≡ turn b c ts xs
      go true c ts p q = p
      go false false ts p q = refl
      go false true [] p q = refl
      go false true (t ∷ ts) p q = q

-- what slot k says of where its term comes from
comes_from : (o : Origin) (ns : List Noted) (k : ℕ) (n : Noted) (s : Step) → o ≡ From s → Comes o ns k n → Leads s ns k n
comes_from Start ns k n s e c = absurd (let z : ◌≡◌ {A = ℕ} 0 1 = cc in omega arith)
comes_from (From u) ns k n s e c = let f : u ≡ s = cc in rw f at c

pub slot_meets : (ws : List ℕ) (ns : List Noted) (k : ℕ) (s : Step) → Slots ws ns → k < length ns → origin_of ws k ≡ From s
    → Meets ns (noted_at ns k).term (noted_at ns k) s.parent k
slot_meets ws ns k s S h e =
    let l = comes_from (origin_of ws k) ns k (noted_at ns k) s e (S.origin k h) in
    record {
      at = stands_at ns k h;
      parent = noted_at ns s.parent;
      from = stands_at ns s.parent (omega (arith, l.before));
      line = l.line;
      is = l.is;
      met = sym (ap (λ y. y.term) l.is);
      earlier = l.before;
    }
