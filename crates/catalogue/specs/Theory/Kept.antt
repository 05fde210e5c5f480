-- Each call that is accepted leaves a sound catalogue sound.
use Rattle.std.specs.Prelude.{◌≡◌, ℕ, ◌+◌, ◌-◌, Bool, true, false, not, T, List, [], ◌∷◌, ◌++◌, length, nat_lt}
use Rattle.std.proofs.Common.{arith, sym, ◌∙◌, ⊎_elim}
use Rattle.std.proofs.Math.Path.{refl}
use Rattle.std.proofs.Math.Option.{Option, none, some}
use Rattle.std.proofs.lemmas.List.{map-append}
use Rattle.std.proofs.Math.Dec.{ltb→lt}
use Rattle.terms.specs.Lists.{◌∈◌, here, there, cons-cases, append_cases, in_left, in_right, Distinct, none, more}
use Rattle.terms.specs.Theory.Reflects.{Reflects}
use Rattle.text.specs.Answer.{Answer, refused, accepted, ◌>>=◌, or_refuse}
use Rattle.text.specs.Theory.Accepted.{If_accepted, required_then}
use Rattle.catalogue.specs.Catalogue.{PLACES, Entry, Catalogue, empty, held, entry_of, listed, take_out, fresh, kinds, put, withdraw, left_by}
use Rattle.catalogue.specs.Calls.{Call, puts, withdraws, call, Sound}
use Rattle.catalogue.specs.Theory.Kinds.{Tells, kinds_middle}
use Rattle.catalogue.specs.Theory.Places.{numbers_in, listed_reflects, Between, put_between, put_length, take_between, take_length}

-- lists without repeats, with an item in the middle or without it

module _ {A : Type 0} where
  pub distinct_middle : (ds : List A) (x : A) (bs : List A) → (x ∈ ds ++ bs → ⊥) → Distinct (ds ++ bs) → Distinct (ds ++ (x ∷ bs))
  distinct_middle [] x bs h d = more h d
  distinct_middle (a ∷ ds) x bs h (more k d) =
      more (λ m. ⊎_elim (λ i. k (in_left bs i)) (λ i. ⊎_elim (λ e. h (here (sym e))) (λ j. k (in_right ds j)) (cons-cases i)) (append_cases ds m))
      (distinct_middle ds x bs (λ m. h (there m)) d)

  pub distinct_without : (ds : List A) (x : A) (bs : List A) → Distinct (ds ++ (x ∷ bs)) → Distinct (ds ++ bs) × (x ∈ ds ++ bs → ⊥)
  distinct_without [] x bs (more h d) = (d, h)
  distinct_without (a ∷ ds) x bs (more k d) =
      let (d', h) = distinct_without ds x bs d in (
        more (λ m. ⊎_elim (λ i. k (in_left (x ∷ bs) i)) (λ i. k (in_right ds (there i))) (append_cases ds m)) d',
        λ m. ⊎_elim (λ e. k (in_right ds (here (sym e)))) h (cons-cases m),
      )

module _ {K : Type 0} where
  -- the numbers of entries, with one more or without it
  numbers_with : {before after : List (Entry K)} {e : Entry K} → Between before e after → (e.number ∈ numbers_in before → ⊥) → Distinct (numbers_in before)
      → Distinct (numbers_in after)
  numbers_with {e = e} B h d =
      rw (B.with, map-append) (distinct_middle (numbers_in B.front) e.number (numbers_in B.behind) (rw (B.without, map-append) at h) (rw (B.without, map-append) at d))

  numbers_without : {before after : List (Entry K)} {e : Entry K} → Between before e after → Distinct (numbers_in after)
      → Distinct (numbers_in before) × (e.number ∈ numbers_in before → ⊥)
  numbers_without {e = e} B d =
      let (d', h) = distinct_without (numbers_in B.front) e.number (numbers_in B.behind) (rw (B.with, map-append) at d) in
      (rw (B.without, map-append) d', rw (B.without, map-append) h)

module _ {K : Type 0} {same : K → K → Bool} (tells : Tells same) where
  -- one entry more counts where its kind is new
  pub kinds_with : {before after : List (Entry K)} {e : Entry K} → Between before e after → kinds same after ≡ fresh same e.kind before + kinds same before
  kinds_with {e = e} B = rw (B.with, B.without) (kinds_middle tells B.front e B.behind)

  -- what holds of a catalogue that a put or a withdrawal leaves
  pub record Put (e : Entry K) (c d : Catalogue K) : Type 0 where
    pub sound : Sound same d
    pub between : Between (held c.places) e (held d.places)
    pub new : e.number ∈ numbers_in (held c.places) → ⊥

  pub record Withdrawn (n : ℕ) (c d : Catalogue K) : Type 0 where
    pub sound : Sound same d
    pub entry : Entry K
    pub number : entry.number ≡ n
    pub between : Between (held d.places) entry (held c.places)
    pub gone : n ∈ numbers_in (held d.places) → ⊥

  unlisted : (n : ℕ) (es : List (Entry K)) → T (not (listed n es)) → n ∈ numbers_in es → ⊥
  unlisted n es h = go (listed n es) (listed_reflects n es) h
    where
      go : (b : Bool) → Reflects (n ∈ numbers_in es) b → T (not b) → n ∈ numbers_in es → ⊥
      go true m t = absurd t
      go false m t = m

  put_holds : (e : Entry K) (c : Catalogue K) → Sound same c → If_accepted (Put e c) (put same e c)
  unfolding put
  put_holds e c S =
      required_then (Put e c) 13 (not (listed e.number (held c.places))) _ λ new.
      required_then (Put e c) 15 (nat_lt (length (held c.places)) PLACES) _ λ room.
      let B = put_between e c.places (omega (arith, S.places, ltb→lt (length (held c.places)) PLACES room)) in
      let h = unlisted e.number (held c.places) new in
      record {
        sound =
            record {
              places = put_length e c.places ∙ S.places;
              numbers = numbers_with B h S.numbers;
              kept = omega (arith, S.kept, kinds_with B);
            };
        between = B;
        new = h;
      }

  withdraw_holds : (n : ℕ) (c : Catalogue K) → Sound same c → If_accepted (Withdrawn n c) (withdraw same n c)
  unfolding withdraw ◌>>=◌ or_refuse
  withdraw_holds n c S = go (entry_of n (held c.places)) refl
    where
      go : (o : Option (Entry K)) → entry_of n (held c.places) ≡ o
          → If_accepted (Withdrawn n c)
          (◌>>=◌ (or_refuse 14 o) (λ e. accepted (record { places = take_out n c.places; kept = c.kept - fresh same e.kind (held (take_out n c.places)) })))
      go none f = tt
      go (some e) f =
          let (B, k) = take_between n c.places e f in
          let (d, h) = numbers_without B S.numbers in
          record {
            sound =
                record {
                  places = take_length n c.places ∙ S.places;
                  numbers = d;
                  kept = omega (arith, S.kept, kinds_with B);
                };
            entry = e;
            number = k;
            between = B;
            gone = rw k at h;
          }

  pub put_sound : {e : Entry K} {c d : Catalogue K} → Sound same c → put same e c ≡ accepted d → Put e c d
  put_sound {e} {c} S f = rw f at (put_holds e c S)

  pub withdraw_sound : {n : ℕ} {c d : Catalogue K} → Sound same c → withdraw same n c ≡ accepted d → Withdrawn n c d
  withdraw_sound {n} {c} S f = rw f at (withdraw_holds n c S)

  -- a call leaves it as it should be, accepted or refused
  pub call_sound : (x : Call K) {c : Catalogue K} → Sound same c → Sound same (left_by c (call same x c))
  unfolding call
  call_sound (puts e) {c} S = go (put same e c) refl
    where
      go : (a : Answer (Catalogue K)) → put same e c ≡ a → Sound same (left_by c a)
      go (refused n) f = S
      go (accepted d) f = (put_sound S f).sound
  call_sound (withdraws n) {c} S = go (withdraw same n c) refl
    where
      go : (a : Answer (Catalogue K)) → withdraw same n c ≡ a → Sound same (left_by c a)
      go (refused m) f = S
      go (accepted d) f = (withdraw_sound S f).sound

  -- an empty catalogue is as it should be
  pub empty_sound : Sound same empty
  unfolding empty held kinds
  empty_sound = record { places = refl; numbers = none; kept = refl }
