-- Calls one after another on one buffer: what each returns, and what the buffer holds at the end.
use Rattle.std.specs.Prelude.{◌≡◌, ℕ, ◌+◌, ◌<◌, ◌≤◌, Bool, true, false, ◌↔◌, List, [], ◌∷◌, ◌≢◌, nat_le, refl}
use Rattle.std.proofs.Common.{arith, sym, ap, ap₂, subst, ◌∙◌, ⊎_elim, get_or-set_same, le-leb}
use Rattle.std.proofs.Math.Option.{none, some}
use Rattle.std.proofs.lemmas.Bool.{lt-leb}
use Rattle.terms.specs.Lists.{◌∈◌, here, there, not-in-nil, cons-cases}
use Rattle.text.specs.Answer.{Answer, refused, accepted, ◌>>=◌}
use Rattle.catalogue.specs.Catalogue.{Entry, Catalogue, empty, held, put, withdraw, returned, left_by}
use Rattle.catalogue.specs.Calls.{Call, puts, withdraws, Stands, last, later, accepted_calls, Sound}
use Rattle.catalogue.specs.Calls as calls
use Rattle.catalogue.specs.Texts.{
  Kind,
  same_kind,
  Text,
  put_text,
  withdraw_text,
  read_put,
  read_withdrawal,
  read_call,
  sent,
  after_texts,
}
use Rattle.catalogue.specs.Stored.{At, Holds, SentCall}
use Rattle.catalogue.specs.Claims.{Zeros, Played, end, call, returned_afresh, all_returned, accepted_by, Kept, Serves}
use Rattle.catalogue.specs.Theory.Kept.{empty_sound}
use Rattle.catalogue.specs.Theory.Texts.{calls_in, kinds_told, sent_sound, texts_sound, texts_held, texts_kept}
use Rattle.catalogue.specs.Theory.Numbers.{sent_low}
use Rattle.catalogue.specs.Theory.Stored.{zeros_hold}
use Rattle.catalogue.specs.Theory.ByPlace.{at, found_at}
use Rattle.catalogue.specs.Theory.Served.{withdraw_accepted, first_place, served}
use Rattle.catalogue.specs.Theory.Steps.{stored_at, free_number, number_entry}

-- the number that a call returns is that of the count made afresh
pub returns_afresh : (c : Catalogue Kind) (a : Answer (Catalogue Kind)) → Sound same_kind (left_by c a) → returned a ≡ returned_afresh a
returns_afresh c (refused n) S = refl
returns_afresh c (accepted d) S = ap (λ n. 100 + n) S.kept

-- a call is refused exactly where its number is below 100
pub refusal : {t : Text} {cat cat' : List ℕ} {r : ℕ} {c : Catalogue Kind} → Holds cat c → Sound same_kind c → SentCall t cat r cat'
    → (r < 100) ↔ (sent t c ≡ refused r)
refusal {t} {r = r} {c} h S s = (λ l. go (sent t c) (s.step c h S).number l, λ e. sent_low t c e)
  where
    go : (a : Answer (Catalogue Kind)) → r ≡ returned a → r < 100 → a ≡ refused r
    go (refused n) e l = ap refused (sym e)
    go (accepted d) e l = absurd (omega arith)

-- the calls whose numbers are 100 or more are those that are accepted
pub accepted_told : (ts : List Text) (c : Catalogue Kind) → accepted_by ts (all_returned ts c) ≡ accepted_calls same_kind (calls_in ts) c
unfolding accepted_by all_returned calls_in accepted_calls sent ◌>>=◌
accepted_told [] c = refl
accepted_told (t ∷ ts) c = go (read_call t) refl (sent t c) refl (λ d. accepted_told ts d)
  where
    done : Answer (Call Kind) → Answer (Catalogue Kind)
    done a = ◌>>=◌ a (λ x. calls.call same_kind x c)

    -- those of the later texts, by what the first leaves
    seen : Answer (Catalogue Kind) → List (Call Kind)
    seen b = accepted_by ts (all_returned ts (left_by c b))

    -- with the first text's call, if its number is 100 or more
    with_first : Bool → Call Kind → List (Call Kind) → List (Call Kind)
    with_first high x xs = elim high [ true ↦ x ∷ xs | false ↦ xs ]

    front : Call Kind → Answer (Catalogue Kind) → List (Call Kind)
    front x b = with_first (nat_le 100 (returned_afresh b)) x (seen b)

    counted : (x : Call Kind) (b : Answer (Catalogue Kind)) → ((n : ℕ) → b ≡ refused n → n < 100)
        → ((d : Catalogue Kind) → accepted_by ts (all_returned ts d) ≡ accepted_calls same_kind (calls_in ts) d)
        → ◌≡◌ {A = List (Call Kind)} (front x b)
        (elim b [ refused n ↦ accepted_calls same_kind (calls_in ts) c | accepted d ↦ x ∷ accepted_calls same_kind (calls_in ts) d ])
    counted x (refused n) low rest = ap (λ high. with_first high x (seen (refused n))) (lt-leb 100 n (low n refl)) ∙ rest c
    counted x (accepted d) low rest =
        ap (λ high. with_first high x (seen (accepted d))) (le-leb 100 (returned_afresh (accepted d)) (omega arith)) ∙ ap (λ xs. x ∷ xs) (rest d)

    go : (a : Answer (Call Kind)) → read_call t ≡ a → (b : Answer (Catalogue Kind)) → b ≡ done a
        → ((d : Catalogue Kind) → accepted_by ts (all_returned ts d) ≡ accepted_calls same_kind (calls_in ts) d)
        → ◌≡◌ {A = List (Call Kind)} (elim a [ refused n ↦ seen b | accepted x ↦ front x b ])
        (accepted_calls same_kind (elim a [ refused n ↦ calls_in ts | accepted x ↦ x ∷ calls_in ts ]) c)
    go (refused n) e b q rest = ap seen q ∙ rest c
    go (accepted x) e b q rest = ap (front x) q ∙ counted x (calls.call same_kind x c) (λ n f. sent_low t c (ap done e ∙ f)) rest

-- from a buffer that holds a catalogue as it should be
pub played : {cat cat' : List ℕ} {ts : List Text} {rs : List ℕ} (c : Catalogue Kind) → Holds cat c → Sound same_kind c → Played cat ts rs cat'
    → Holds cat' (after_texts ts c) × (rs ≡ all_returned ts c)
unfolding after_texts all_returned
played c h S end = (h, refl)
played c h S (call {t = t} s p) =
    let step = s.step c h S in
    let S' = sent_sound t S in
    let (k, e) = played (left_by c (sent t c)) step.after S' p in
    (k, ap₂ ◌∷◌ (step.number ∙ returns_afresh c (sent t c) S') e)

-- an entry that stands was put by one of the calls
stands_put : {e : Entry Kind} {xs : List (Call Kind)} → Stands e xs → puts e ∈ xs
stands_put (last h) = here refl
stands_put (later s) = there (stands_put s)

-- a call that was accepted is one of those made
accepted_made : (xs : List (Call Kind)) (c : Catalogue Kind) {x : Call Kind} → x ∈ accepted_calls same_kind xs c → x ∈ xs
unfolding accepted_calls
accepted_made [] c i = i
accepted_made (y ∷ xs) c {x} i = go (calls.call same_kind y c) i (λ d j. accepted_made xs d j)
  where
    go : (a : Answer (Catalogue Kind)) → x ∈ elim a [ refused n ↦ accepted_calls same_kind xs c | accepted d ↦ y ∷ accepted_calls same_kind xs d ]
        → ((d : Catalogue Kind) → x ∈ accepted_calls same_kind xs d → x ∈ xs) → x ∈ y ∷ xs
    go (refused n) i rest = there (rest c i)
    go (accepted d) i rest = ⊎_elim (λ p. here p) (λ j. there (rest d j)) (cons-cases i)

-- and one that a text asks for
asked : (ts : List Text) {x : Call Kind} → x ∈ calls_in ts → (t : Text) × (t ∈ ts) × (read_call t ≡ accepted x)
unfolding calls_in
asked [] i = absurd (not-in-nil i)
asked (t ∷ ts) {x} i = go (read_call t) refl i (asked ts)
  where
    go : (a : Answer (Call Kind)) → read_call t ≡ a → x ∈ elim a [ refused n ↦ calls_in ts | accepted y ↦ y ∷ calls_in ts ]
        → (x ∈ calls_in ts → (u : Text) × (u ∈ ts) × (read_call u ≡ accepted x)) → (u : Text) × (u ∈ t ∷ ts) × (read_call u ≡ accepted x)
    go (refused n) e i rest = let (u, j, f) = rest i in (u, there j, f)
    go (accepted y) e i rest = ⊎_elim (λ p. (t, here refl, e ∙ ap accepted (sym p))) (λ j. let (u, k, f) = rest j in (u, there k, f)) (cons-cases i)

-- a text that asks for a put of the entry
asks_put : {ts : List Text} {e : Entry Kind} (t : Text) → t ∈ ts → read_call t ≡ accepted (puts e) → (bs : List ℕ) × (put_text bs ∈ ts) × (read_put bs ≡ accepted e)
unfolding read_call ◌>>=◌
asks_put {ts} {e} (put_text bs) i f = (bs, i, go (read_put bs) f)
  where
    go : (a : Answer (Entry Kind)) → ◌>>=◌ a (λ d. accepted (puts d)) ≡ accepted (puts e) → a ≡ accepted e
    go (refused n) f = absurd (let z : ◌≡◌ {A = ℕ} 0 1 = cc in omega arith)
    go (accepted d) f = let q : d ≡ e = cc in ap accepted q
asks_put {ts} {e} (withdraw_text bs) i f = absurd (go (read_withdrawal bs) f)
  where
    go : (a : Answer ℕ) → ◌>>=◌ a (λ n. accepted (withdraws n)) ≢ accepted (puts e)
    go (refused n) f = let z : ◌≡◌ {A = ℕ} 0 1 = cc in omega arith
    go (accepted n) f = let z : ◌≡◌ {A = ℕ} 0 1 = cc in omega arith

-- an entry that stands was put by one of the texts
pub put_by_text : (ts : List Text) (c : Catalogue Kind) {e : Entry Kind} → Stands e (accepted_calls same_kind (calls_in ts) c)
    → (bs : List ℕ) × (put_text bs ∈ ts) × (read_put bs ≡ accepted e)
put_by_text ts c s =
    let (t, i, f) = asked ts (accepted_made (calls_in ts) c (stands_put s)) in
    asks_put t i f

pub zeros_played : {cat cat' : List ℕ} {ts : List Text} {rs : List ℕ} → Zeros cat → Played cat ts rs cat' → Kept ts rs cat'
zeros_played {ts = ts} z p =
    let (h, e) = played empty (zeros_hold z) (empty_sound kinds_told) p in
    record {
      catalogue = after_texts ts empty;
      holds = h;
      sound = texts_sound ts empty (empty_sound kinds_told);
      returns = e;
      entries = λ g.
          subst (λ xs. (g ∈ held (after_texts ts empty).places) ↔ Stands g xs) (sym (ap (accepted_by ts) e ∙ accepted_told ts empty)) (texts_held ts g);
      texts = λ e m. put_by_text ts empty ((texts_held ts e).0 m);
      count = h.kept ∙ texts_kept ts;
    }

-- a withdrawn entry's place serves the next put

-- a call that was accepted
module _ {t : Text} {cat cat' : List ℕ} {r : ℕ} {c : Catalogue Kind} (H : Holds cat c) (S : Sound same_kind c) (s : SentCall t cat r cat') where
  accepted_sent : 100 ≤ r → (d : Catalogue Kind) × (sent t c ≡ accepted d)
  accepted_sent high = go (sent t c) refl
    where
      go : (a : Answer (Catalogue Kind)) → sent t c ≡ a → (d : Catalogue Kind) × (sent t c ≡ accepted d)
      go (refused n) e = absurd (let q = (s.step c H S).number ∙ ap returned e in omega (arith, sent_low t c e))
      go (accepted d) e = (d, e)

  accepted_left : {d : Catalogue Kind} → sent t c ≡ accepted d → (100 ≤ r) × Holds cat' d × Sound same_kind d
  accepted_left {d} e =
      let n : r ≡ 100 + d.kept = (s.step c H S).number ∙ ap returned e in
      let left = ap (left_by c) e in
      (omega arith, subst (Holds cat') left (s.step c H S).after, subst (Sound same_kind) left (sent_sound t S))

sent_withdrawal : (bs : List ℕ) {n : ℕ} → read_withdrawal bs ≡ accepted n → (c : Catalogue Kind) → sent (withdraw_text bs) c ≡ withdraw same_kind n c
unfolding sent read_call calls.call ◌>>=◌
sent_withdrawal bs e c = rw e

sent_put : (bs : List ℕ) {e : Entry Kind} → read_put bs ≡ accepted e → (c : Catalogue Kind) → sent (put_text bs) c ≡ put same_kind e c
unfolding sent read_call calls.call ◌>>=◌
sent_put bs f c = rw f

pub place_serves : Serves
place_serves cat cat₁ cat₂ c k n r r' bs ps e H S inside number low filled read first read' second high =
    let (g, a) = number_entry H S k inside (omega arith) in
    let m : g.number ≡ n = sym (stored_at H S k inside a).number ∙ number in
    let found = found_at n c.places k g a m (λ j i x b h. first_place S a m j i b h) in
    let w = withdraw_accepted same_kind n c found in
    let (taken, H₁, S₁) = accepted_left H S first (sent_withdrawal bs read c ∙ w) in
    let (f, p) = accepted_sent H₁ S₁ second high in
    let (_, H₂, _) = accepted_left H₁ S₁ second p in
    let is = served S n w k (λ j i free. filled j i (free_number H S j (omega arith) free)) a m e (sym (sent_put ps read' _) ∙ p) in
    let here_is : at f.places k ≡ some e = ap (λ ps. at ps k) is ∙ get_or-set_same c.places k (some e) none (omega (arith, H.count)) in
    let stored = subst (At cat₂ k) here_is (H₂.places k inside) in
    (taken, stored)
