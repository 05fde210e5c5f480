-- Texts that are sent to PUT and WITHDRAW: what is proved of calls, and of lists of calls, holds of them.
use Rattle.std.specs.Prelude.{◌≡◌, ℕ, Bool, true, false, ◌&&◌, ◌↔◌, List, [], ◌∷◌, refl}
use Rattle.std.proofs.Common.{arith, ap}
use Rattle.std.proofs.Math.Dec.{compare_is_eq}
use Rattle.terms.specs.Lists.{◌∈◌}
use Rattle.terms.specs.Compare.{order_numbers}
use Rattle.terms.specs.Theory.Reflects.{Reflects}
use Rattle.terms.specs.Theory.Order.{tie_reflects}
use Rattle.terms.specs.Theory.Coding.{numbers_order}
use Rattle.text.specs.Answer.{Answer, refused, accepted, ◌>>=◌}
use Rattle.catalogue.specs.Catalogue.{Entry, Catalogue, empty, held, kinds, left_by}
use Rattle.catalogue.specs.Calls.{Call, Stands, call, after, accepted_calls, Sound}
use Rattle.catalogue.specs.Texts.{Key, raw, worded, Kind, same_key, same_kind, Text, read_call, sent, after_texts}
use Rattle.catalogue.specs.Theory.Kinds.{Tells}
use Rattle.catalogue.specs.Theory.Kept.{call_sound}
use Rattle.catalogue.specs.Theory.Held.{entries_held, count_kept}

-- the test of kinds

key_reflects : (k l : Key) → Reflects (k ≡ l) (same_key k l)
key_reflects raw raw = refl
key_reflects raw worded = λ e. let z : ◌≡◌ {A = ℕ} 0 1 = cc in omega arith
key_reflects worded raw = λ e. let z : ◌≡◌ {A = ℕ} 0 1 = cc in omega arith
key_reflects worded worded = refl

pub kinds_told : Tells same_kind
unfolding same_kind
kinds_told =
    record {
      test = λ k l.
          go k l (same_key k.key l.key) (key_reflects k.key l.key) (compare_is_eq (order_numbers k.lines l.lines))
          (tie_reflects numbers_order k.lines l.lines);
    }
  where
    go : (k l : Kind) (b : Bool) → Reflects (k.key ≡ l.key) b → (c : Bool) → Reflects (k.lines ≡ l.lines) c → Reflects (k ≡ l) (b && c)
    go k l true p true q = λ i. record { key = p i; lines = q i }
    go k l true p false q = λ e. q (ap (λ m. m.lines) e)
    go k l false p c q = λ e. p (ap (λ m. m.key) e)

-- a text that is sent leaves the catalogue as it should be
pub sent_sound : (t : Text) {c : Catalogue Kind} → Sound same_kind c → Sound same_kind (left_by c (sent t c))
unfolding sent ◌>>=◌
sent_sound t {c} S = go (read_call t)
  where
    go : (a : Answer (Call Kind)) → Sound same_kind (left_by c (◌>>=◌ a (λ x. call same_kind x c)))
    go (refused n) = S
    go (accepted x) = call_sound kinds_told x S

pub texts_sound : (ts : List Text) (c : Catalogue Kind) → Sound same_kind c → Sound same_kind (after_texts ts c)
unfolding after_texts
texts_sound [] c S = S
texts_sound (t ∷ ts) c S = texts_sound ts (left_by c (sent t c)) (sent_sound t S)

-- the calls that the texts ask for; a text that is refused asks for none
unfoldable pub calls_in : List Text → List (Call Kind)
unfolding read_call
calls_in [] = []
calls_in (t ∷ ts) = elim (read_call t) [ refused n ↦ calls_in ts | accepted x ↦ x ∷ calls_in ts ]

pub texts_are_calls : (ts : List Text) (c : Catalogue Kind) → after_texts ts c ≡ after same_kind (calls_in ts) c
unfolding after_texts calls_in after sent ◌>>=◌
texts_are_calls [] c = refl
texts_are_calls (t ∷ ts) c = go (read_call t) (texts_are_calls ts)
  where
    go : (a : Answer (Call Kind)) → ((c : Catalogue Kind) → after_texts ts c ≡ after same_kind (calls_in ts) c)
        → after_texts ts (left_by c (◌>>=◌ a (λ x. call same_kind x c))) ≡ after same_kind (elim a [ refused n ↦ calls_in ts | accepted x ↦ x ∷ calls_in ts ]) c
    go (refused n) rest = rest c
    go (accepted x) rest = rest (left_by c (call same_kind x c))

-- after every list of texts from an empty catalogue the entries held are those accepted and not withdrawn since
pub texts_held : (ts : List Text) (e : Entry Kind) → (e ∈ held (after_texts ts empty).places) ↔ Stands e (accepted_calls same_kind (calls_in ts) empty)
texts_held ts e = rw (texts_are_calls ts empty) (entries_held kinds_told (calls_in ts) e)

-- and the kept count equals one made afresh
pub texts_kept : (ts : List Text) → (after_texts ts empty).kept ≡ kinds same_kind (held (after_texts ts empty).places)
texts_kept ts = rw (texts_are_calls ts empty) (count_kept kinds_told (calls_in ts))
