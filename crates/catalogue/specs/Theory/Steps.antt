-- From numbers to the catalogue: what is found in the places, and what is written there, is what a put and a withdrawal do.
use Rattle.std.specs.Prelude.{◌≡◌, ℕ, ◌+◌, ◌-◌, ◌<◌, Bool, true, false, ◌↔◌, List, length, set, ◌≢◌, slice_index, slice_index_or, slice_set, refl}
use Rattle.std.proofs.Common.{arith, sym, ap, subst, ◌∙◌, length-set, get_or-set_same, get_or-set_other}
use Rattle.std.proofs.lemmas.Bool.{false≢true}
use Rattle.std.proofs.Math.Option.{Option, none, some, none-ne-some}
use borrow.Author.Tests.{le-ltb}
use Rattle.text.specs.Answer.{Answer, refused, accepted, ◌>>=◌, require, or_refuse}
use Rattle.catalogue.specs.Catalogue.{PLACES, Entry, Catalogue, held, entry_of, listed, put_first, take_out, has_kind, fresh, put, withdraw}
use Rattle.catalogue.specs.Calls.{Sound}
use Rattle.catalogue.specs.Texts.{Key, Kind, same_kind}
use Rattle.catalogue.specs.Stored.{COUNT, key_number, Lines, number_at, Stored, At, Holds, Step}
use Rattle.catalogue.specs.Promises.{Seeks, AnotherOf, PutsAt, Listed, entry, TakesOut}
use Rattle.std.specs.Prelude as code
use Rattle.catalogue.specs.Theory.Kinds.{kinds_bound}
use Rattle.catalogue.specs.Theory.Places.{take_between}
use Rattle.catalogue.specs.Theory.Kept.{kinds_with}
use Rattle.catalogue.specs.Theory.Texts.{kinds_told}
use Rattle.catalogue.specs.Theory.Stored.{kind_tested}
use Rattle.catalogue.specs.Theory.ByPlace.{at, put_at, held_short, room_at, full_at, found_at, taken_at, unlisted_at, listed_at, kind_at, kind_found}
use Rattle.catalogue.specs.Theory.Rewritten.{rewritten}
use Rattle.catalogue.specs.Theory.Served.{place_inside, put_accepted, withdraw_accepted}

-- a call that was refused, or accepted
pub refused_step : {cat : List ℕ} {c : Catalogue Kind} {a : Answer (Catalogue Kind)} {n : ℕ} → Holds cat c → a ≡ refused n → Step c a n cat
refused_step H e = rw e (record { number = refl; after = H })

accepted_step : {cat' : List ℕ} {c d : Catalogue Kind} {a : Answer (Catalogue Kind)} {r : ℕ} → a ≡ accepted d → r ≡ 100 + d.kept → Holds cat' d → Step c a r cat'
accepted_step e n H = rw e (record { number = n; after = H })

-- what a kind counts, by the test

fresh_known : {K : Type 0} (same : K → K → Bool) (k : K) (es : List (Entry K)) → has_kind same k es ≡ true → fresh same k es ≡ 0
unfolding fresh
fresh_known same k es e = rw (e, fresh)

fresh_unknown : {K : Type 0} (same : K → K → Bool) (k : K) (es : List (Entry K)) → has_kind same k es ≡ false → fresh same k es ≡ 1
unfolding fresh
fresh_unknown same k es e = rw (e, fresh)

module _ {cat : List ℕ} {c : Catalogue Kind} (H : Holds cat c) (S : Sound same_kind c) where
  -- what a place has

  pub stored_at : (j : ℕ) → j < PLACES → {e : Entry Kind} → at c.places j ≡ some e → Stored cat j e
  stored_at j h a = subst (At cat j) a (H.places j h)

  pub free_number : (j : ℕ) → j < PLACES → at c.places j ≡ none → number_at cat j ≡ 0
  free_number j h a = subst (At cat j) a (H.places j h)

  pub number_entry : (j : ℕ) → j < PLACES → 0 < number_at cat j → (e : Entry Kind) × (at c.places j ≡ some e)
  number_entry j h some-number = go (at c.places j) refl
    where
      go : (o : Option (Entry Kind)) → at c.places j ≡ o → (e : Entry Kind) × (at c.places j ≡ some e)
      go none a = absurd (omega (arith, free_number j h a))
      go (some e) a = (e, a)

  number_free : (j : ℕ) → j < PLACES → number_at cat j ≡ 0 → at c.places j ≡ none
  number_free j h zero = go (at c.places j) refl
    where
      go : (o : Option (Entry Kind)) → at c.places j ≡ o → at c.places j ≡ none
      go none a = a
      go (some e) a = absurd (omega (arith, (stored_at j h a).number, (stored_at j h a).listed))

  -- refusals: 13 and 15 of a put, 14 of a withdrawal

  unlisted : (n : ℕ) → Seeks cat n code.None → (entry_of n (held c.places) ≡ none) × (listed n (held c.places) ≡ false)
  unlisted n out =
      unlisted_at n c.places (λ j i e a m. let h : j < PLACES = omega (arith, S.places) in out j h ((stored_at j h a).number ∙ m))

  pub put_listed : (e : Entry Kind) (k : ℕ) → 0 < e.number → Seeks cat e.number (code.Some k) → put same_kind e c ≡ refused 13
  unfolding put ◌>>=◌ require
  put_listed e k pos (h, number, _) =
      let (d, a) = number_entry k h (omega arith) in
      let found : listed e.number (held c.places) ≡ true = listed_at e.number c.places k d a (sym (stored_at k h a).number ∙ number) in
      rw found

  pub put_full : (e : Entry Kind) → Seeks cat e.number code.None → Seeks cat 0 code.None → put same_kind e c ≡ refused 15
  unfolding put ◌>>=◌ require
  put_full e out full =
      let all : length (held c.places) ≡ length c.places =
      full_at c.places (λ j i a. let h : j < PLACES = omega (arith, S.places) in full j h (free_number j h a)) in
      let (_, new) = unlisted e.number out in
      rw (new, le-ltb (length (held c.places)) PLACES (omega (arith, S.places)))

  pub withdraw_unlisted : (n : ℕ) → Seeks cat n code.None → withdraw same_kind n c ≡ refused 14
  unfolding withdraw ◌>>=◌ or_refuse
  withdraw_unlisted n out = let (none-such, _) = unlisted n out in rw none-such

  -- a kind is found in a place other than `but` exactly when the entries of the places that are left have it
  another : (k : Kind) {l r : List ℕ} → Lines k.key l r k.lines → (but : code.Option ℕ) (ps : List (Option (Entry Kind))) → length ps ≡ length c.places
      → ((j : ℕ) → code.Some j ≢ but → at ps j ≡ at c.places j) → ((j : ℕ) → j < PLACES → code.Some j ≡ but → at ps j ≡ none)
      → (has_kind same_kind k (held ps) ≡ true) ↔ AnotherOf cat but (key_number k.key) l r
  another k L but ps size left gone = (
    λ t.
        let (j, e, a, m) = kind_found same_kind k ps t in
        let h : j < PLACES = omega (arith, place_inside ps j a, size, S.places) in
        let other : code.Some j ≡ but → ⊥ = λ p. none-ne-some e (sym (gone j h p) ∙ a) in
        let R = stored_at j h (sym (left j other) ∙ a) in
        (j, h, (other, λ z. omega (arith, R.number, R.listed), (kind_tested cat j R k L).0 m)),
    λ (j, h, (other, full, K)).
        let (e, a) = number_entry j h (omega arith) in
        kind_at same_kind k ps j e (left j other ∙ a) ((kind_tested cat j (stored_at j h a) k L).1 K),
  )

  -- in any place
  known_anywhere : (k : Kind) {l r : List ℕ} → Lines k.key l r k.lines → (has_kind same_kind k (held c.places) ≡ true) ↔ AnotherOf cat code.None (key_number k.key) l r
  known_anywhere k L = another k L code.None c.places refl (λ j h. refl) (λ j h e. absurd (let z : ◌≡◌ {A = ℕ} 0 1 = cc in omega arith))

  -- in a place other than number i
  known_elsewhere : (k : Kind) {l r : List ℕ} → Lines k.key l r k.lines → (i : ℕ) → i < PLACES
      → (has_kind same_kind k (held (slice_set c.places i none)) ≡ true) ↔ AnotherOf cat (code.Some i) (key_number k.key) l r
  known_elsewhere k L i inside =
      another k L (code.Some i) (slice_set c.places i none) (length-set c.places i none)
      (λ j h. get_or-set_other c.places i j none none (λ e. h (ap (λ n. code.Some n) e)))
      (λ j h e. let f : j ≡ i = cc in ap (at (slice_set c.places i none)) f ∙ get_or-set_same c.places i none none (omega (arith, S.places)))

  -- ---- a put into the first free place

  module _ {n : ℕ} {key : Key} {left right lines : List ℕ} (L : Listed key left right lines) (pos : 0 < n) where
    pub put_step : (k : ℕ) → Seeks cat 0 (code.Some k) → Seeks cat n code.None → {r : ℕ} {cat' : List ℕ} → PutsAt cat k n (key_number key) left right r cat'
        → Step c (put same_kind (entry n key lines) c) r cat'
    put_step k (h, free, filled) out {r} {cat'} P =
        accepted_step {d = d} (put_accepted same_kind e c (unlisted n out).1 (omega (arith, room_at c.places k (omega (arith, S.places)) empty, S.places)))
        (P.returns ∙ ap (λ m. 100 + m) count)
        (subst (λ ps. Holds cat' (record { places = ps; kept = c.kept + fresh same_kind e.kind (held c.places) }))
        (sym (put_at e c.places k (omega (arith, S.places)) empty (λ j i a. filled j i (free_number j (omega arith) a))))
        (rewritten k h H P.elsewhere (some e) stored (c.kept + fresh same_kind e.kind (held c.places)) count))
      where
        e : Entry Kind
        e = entry n key lines

        d : Catalogue Kind
        d = record { places = put_first e c.places; kept = c.kept + fresh same_kind e.kind (held c.places) }

        empty : at c.places k ≡ none
        empty = number_free k h free

        stored : Stored cat' k e
        stored =
            record {
              number = P.number;
              listed = pos;
              left = left;
              right = right;
              left_room = L.left_room;
              right_room = L.right_room;
              kind = P.kind;
              lines = L.lines;
            }

        known : (b : Bool) → has_kind same_kind e.kind (held c.places) ≡ b → slice_index cat' COUNT ≡ c.kept + fresh same_kind e.kind (held c.places)
        known true t =
            omega (
              arith,
              P.known ((known_anywhere e.kind L.lines).0 t),
              fresh_known same_kind e.kind (held c.places) t,
              H.kept,
            )
        known false f =
            omega (
              arith,
              P.new
                  (λ A. false≢true (sym f ∙ (known_anywhere e.kind L.lines).1 A))
                  (omega (arith, H.kept, S.kept, kinds_bound same_kind (held c.places), held_short c.places, S.places)),
              fresh_unknown same_kind e.kind (held c.places) f,
              H.kept,
            )

        count : slice_index_or cat' COUNT 0 ≡ c.kept + fresh same_kind e.kind (held c.places)
        count = known (has_kind same_kind e.kind (held c.places)) refl

  -- ---- a withdrawal from the first place with the number

  pub withdraw_step : (n k : ℕ) → 0 < n → Seeks cat n (code.Some k) → {r : ℕ} {cat' : List ℕ} → TakesOut cat k r cat' → Step c (withdraw same_kind n c) r cat'
  withdraw_step n k pos (h, number, before) {r} {cat'} W =
      accepted_step {d = d} (withdraw_accepted same_kind n c found) (W.returns ∙ ap (λ m. 100 + m) count)
      (subst (λ ps. Holds cat' (record { places = ps; kept = d.kept })) (sym taken) (rewritten k h H W.elsewhere none W.free d.kept count))
    where
      there_is : (e : Entry Kind) × (at c.places k ≡ some e)
      there_is = number_entry k h (omega arith)

      e : Entry Kind
      e = there_is.0

      R : Stored cat k e
      R = stored_at k h there_is.1

      numbered : e.number ≡ n
      numbered = sym R.number ∙ number

      first : (j : ℕ) → j < k → (x : Entry Kind) → at c.places j ≡ some x → x.number ≢ n
      first j i x a m = before j i ((stored_at j (omega arith) a).number ∙ m)

      found : entry_of n (held c.places) ≡ some e
      found = found_at n c.places k e there_is.1 numbered first

      taken : take_out n c.places ≡ slice_set c.places k none
      taken = taken_at n c.places k e there_is.1 numbered first

      d : Catalogue Kind
      d = record { places = take_out n c.places; kept = c.kept - fresh same_kind e.kind (held (take_out n c.places)) }

      shared : (b : Bool) → has_kind same_kind e.kind (held (take_out n c.places)) ≡ b → slice_index cat' COUNT ≡ d.kept
      shared true t =
          omega (
            arith,
            W.shared (key_number e.kind.key) R.left R.right R.kind R.left_room R.right_room
                ((known_elsewhere e.kind R.lines k h).0 (ap (λ ps. has_kind same_kind e.kind (held ps)) (sym taken) ∙ t)),
            fresh_known same_kind e.kind (held (take_out n c.places)) t,
            H.kept,
          )
      shared false f =
          let one = fresh_unknown same_kind e.kind (held (take_out n c.places)) f in
          omega (
            arith,
            W.last (key_number e.kind.key) R.left R.right R.kind R.left_room R.right_room
                (λ A. false≢true (sym f ∙ ap (λ ps. has_kind same_kind e.kind (held ps)) taken ∙ (known_elsewhere e.kind R.lines k h).1 A))
                (omega (arith, H.kept, S.kept, kinds_with kinds_told (take_between n c.places e found).0, one)),
            one,
            H.kept,
          )

      count : slice_index_or cat' COUNT 0 ≡ d.kept
      count = shared (has_kind same_kind e.kind (held (take_out n c.places))) refl
