-- The value of a step line, part after part.
use Rattle.std.proofs.Common.{◌≡◌, ℕ, ◌+◌, ◌<◌, true, false, List, length, refl, sym, Some, None, eqb, take, drop, Bor}
use Prim.Native.Char.{code}
use Rattle.std.proofs.lemmas.Bool.{false≢true}
use Rattle.std.proofs.lemmas.Bool.Decides.{Decides-eqb}
use Rattle.std.proofs.lemmas.Slice.Eq.{strip_prefix_is}
use Rattle.std.specs.Cmp.Lexicographic.{pointwise}
use Rattle.std.proofs.Math.Option.{Option, none, some, bind}
use Rattle.terms.specs.Numbers.{is_some}
use Rattle.search.specs.Law.{semiring}
use Rattle.search.specs.Line.{Side}
use Rattle.search.specs.Coded.{name_of, direction_of}
use Rattle.search.specs.declared.search.Law.{Law}
use Rattle.search.specs.declared.search.Direction.{Direction}
use Rattle.text.specs.Bytes.{ascii, after, up_to}
use Rattle.text.specs.Reading.{CutAt}
use Rattle.text.specs.StepText.{read_place}
use Rattle.text.specs.Theory.StepRead.{place_only}
use Rattle.text.proofs.Lines.{after_some, after_none}
use Rattle.checking.specs.declared.line.Step.{Step}
use Rattle.checking.specs.Layout.{step_layout}
use Rattle.checking.specs.LineRead.{LawIn, DirectionIn, StepAt}

-- what `strip_prefix` says of a key
module _ (key s : List ℕ) where
  pub behind : (rest : Bor (List ℕ))
      → (pointwise eqb (take (length key) s) key ≡ true) × (rest.now ≡ drop (length key) s) × (length rest.now + length key ≡ length s) → after key s ≡ some rest.now
  behind rest h = after_some key rest.now s (strip_prefix_is Decides-eqb s key (Some rest) h)

  pub not_behind : pointwise eqb (take (length key) s) key ≡ false → after key s ≡ none
  not_behind h = after_none key s (strip_prefix_is Decides-eqb s key None h)

module _ (value : List ℕ) where
  pub no_first : up_to (code " ") value ≡ none → step_layout semiring value ≡ none
  unfolding step_layout bind
  no_first e = rw e

  module _ {name turn_on : List ℕ} (a : CutAt value (code " ") name turn_on) where
    pub no_second : up_to (code " ") turn_on ≡ none → step_layout semiring value ≡ none
    unfolding step_layout bind
    no_second e = rw (a.parts, e)

    module _ {turn place_on : List ℕ} (b : CutAt turn_on (code " ") turn place_on) where
      pub no_third : up_to (code " ") place_on ≡ none → step_layout semiring value ≡ none
      unfolding step_layout bind
      no_third e = rw (a.parts, b.parts, e)

      module _ {at_place to_term : List ℕ} (c : CutAt place_on (code " ") at_place to_term) where
        pub no_law : LawIn name None → step_layout semiring value ≡ none
        unfolding step_layout bind
        no_law e = rw (a.parts, b.parts, c.parts, e)

        module _ (w : Law) (d : LawIn name (Some w)) where
          pub no_direction : DirectionIn turn None → step_layout semiring value ≡ none
          unfolding step_layout bind
          no_direction e = rw (a.parts, b.parts, c.parts, d, e)

          module _ (v : Direction) (f : DirectionIn turn (Some v)) where
            pub no_at : after (ascii "at=") at_place ≡ none → step_layout semiring value ≡ none
            unfolding step_layout bind
            no_at e = rw (a.parts, b.parts, c.parts, d, f, e)

            module _ {place : List ℕ} (g : after (ascii "at=") at_place ≡ some place) where
              -- a place that is read, or not
              pub no_place : false ≡ is_some (read_place place) → step_layout semiring value ≡ none
              unfolding step_layout bind is_some
              no_place e = go (read_place place) refl e
                where
                  go : (o : Option (List Side)) → read_place place ≡ o → false ≡ is_some o → step_layout semiring value ≡ none
                  go none h e = rw (a.parts, b.parts, c.parts, d, f, g, h)
                  go (some p) h e = absurd (false≢true e)

              pub no_to : after (ascii "to=") to_term ≡ none → step_layout semiring value ≡ none
              unfolding step_layout bind
              no_to e = go (read_place place) refl
                where
                  go : (o : Option (List Side)) → read_place place ≡ o → step_layout semiring value ≡ none
                  go none h = rw (a.parts, b.parts, c.parts, d, f, g, h)
                  go (some p) h = rw (a.parts, b.parts, c.parts, d, f, g, h, e)

              pub step_whole : true ≡ is_some (read_place place) → (x : Step) → x.law ≡ w → x.direction ≡ v → x.place.now ≡ place
                  → after (ascii "to=") to_term ≡ some x.result.now → length x.place.now + length x.result.now < length value → StepAt value x
              unfolding step_layout bind is_some
              step_whole placed x law way here k shorter = go (read_place place) refl placed
                where
                  go : (o : Option (List Side)) → read_place place ≡ o → true ≡ is_some o → StepAt value x
                  go none h e = absurd (false≢true (sym e))
                  go (some p) h e =
                      record {
                        shorter = shorter;
                        layout = record { law = name_of x.law; direction = direction_of x.direction; place = p; result = x.result.now };
                        stands = record { law = refl; direction = refl; place = rw here (place_only place h); result = refl };
                        read = rw (a.parts, b.parts, c.parts, d, f, g, h, k, law, way);
                      }
