-- Terms and lists of words renamed one renaming after another, by the renaming that changes nothing, and their letters.
use Rattle.std.specs.Prelude.{◌≡◌, ℕ, List, [], ◌∷◌, ◌++◌, map, refl}
use Rattle.std.proofs.Common.{arith, sym, ◌∙◌, ap, ap₂}
use mathlib.Core.List.{flatten, map-append, map-map, map-id}
use Rattle.terms.specs.Lists.{◌∈◌, in-cast, in_map, of_map}
use Rattle.terms.specs.Sort.{kept}
use Rattle.terms.specs.Term.{Term, letter, zero, one, add, mul, size, subst}
use Rattle.terms.specs.Letters.{letters}
use Rattle.words.specs.Words.{Word, products, normal, words, expand}
use Rattle.words.specs.Rename.{rename_term, rename_words}
use Rattle.words.specs.Theory.Renaming.{rename_term_depends, rename_words_depends}
use Rattle.words.specs.Theory.Products.{normal_normal}
use Rattle.words.specs.Theory.Expand.{words_expand}
use Rattle.words.specs.Theory.WordLetters.{each_expanded, each_flat, sorted_letters, rename_sorted_words}
use Rattle.words.specs.Theory.Names.{Image}
use Rattle.words.specs.Theory.Alike.{Renames}

-- members of a mapped list
mapped : (f : ℕ → ℕ) (ns ms : List ℕ) → ms ≡ map f ns → Image f ns ms
mapped f ns ms e n = (λ i. of_map f ns (rw e at i), λ (m, i, p). rw e (in-cast (sym p) (in_map f i)))

-- terms

rename_term_joins : (f g : ℕ → ℕ) (t : Term) → rename_term g (rename_term f t) ≡ rename_term (λ n. g (f n)) t
unfolding rename_term subst
rename_term_joins f g (letter n) = refl
rename_term_joins f g zero = refl
rename_term_joins f g one = refl
rename_term_joins f g (add s t) = ap₂ add (rename_term_joins f g s) (rename_term_joins f g t)
rename_term_joins f g (mul s t) = ap₂ mul (rename_term_joins f g s) (rename_term_joins f g t)

pub rename_term_stays : (t : Term) → rename_term (λ n. n) t ≡ t
unfolding rename_term subst
rename_term_stays (letter n) = refl
rename_term_stays zero = refl
rename_term_stays one = refl
rename_term_stays (add s t) = ap₂ add (rename_term_stays s) (rename_term_stays t)
rename_term_stays (mul s t) = ap₂ mul (rename_term_stays s) (rename_term_stays t)

rename_term_letters : (f : ℕ → ℕ) (t : Term) → letters (rename_term f t) ≡ map f (letters t)
unfolding rename_term subst letters
rename_term_letters f (letter n) = refl
rename_term_letters f zero = refl
rename_term_letters f one = refl
rename_term_letters f (add s t) = ap₂ ◌++◌ (rename_term_letters f s) (rename_term_letters f t) ∙ sym (map-append f (letters s) (letters t))
rename_term_letters f (mul s t) = ap₂ ◌++◌ (rename_term_letters f s) (rename_term_letters f t) ∙ sym (map-append f (letters s) (letters t))

pub size_renamed : (f : ℕ → ℕ) (t : Term) → size (rename_term f t) ≡ size t
unfolding rename_term subst size
size_renamed f (letter n) = refl
size_renamed f zero = refl
size_renamed f one = refl
size_renamed f (add s t) = omega (arith, size_renamed f s, size_renamed f t)
size_renamed f (mul s t) = omega (arith, size_renamed f s, size_renamed f t)

pub terms_rename : Renames rename_term letters (λ t. Unit {0})
terms_rename =
    record {
      depends = rename_term_depends;
      joins = rename_term_joins;
      letters = λ f t. mapped f (letters t) (letters (rename_term f t)) (rename_term_letters f t);
      stays = λ t ok. rename_term_stays t;
    }

-- lists of words

flat_map : (f : ℕ → ℕ) (ws : List Word) → flatten (map (map f) ws) ≡ map f (flatten ws)
unfolding flatten
flat_map f [] = refl
flat_map f (w ∷ ws) = ap (λ l. map f w ++ l) (flat_map f ws) ∙ sym (map-append f w (flatten ws))

rename_words_letters : (f : ℕ → ℕ) (ws : List Word) → Image f (flatten ws) (flatten (rename_words f ws))
unfolding rename_words
rename_words_letters f ws n =
    let (only, all) = sorted_letters (map (map f) ws) n in
    let image = mapped f (flatten ws) (flatten (map (map f) ws)) (flat_map f ws) n in
    (λ i. image.0 (only i), λ h. all (image.1 h))

maps_join : (f g : ℕ → ℕ) (ws : List Word) → map (map g) (map (map f) ws) ≡ map (map (λ n. g (f n))) ws
maps_join f g [] = refl
maps_join f g (w ∷ ws) = ap₂ ◌∷◌ (simp map-map) (maps_join f g ws)

maps_stay : (ws : List Word) → map (map (λ n. n)) ws ≡ ws
maps_stay [] = refl
maps_stay (w ∷ ws) = ap₂ ◌∷◌ (map-id w) (maps_stay ws)

rename_words_joins : (f g : ℕ → ℕ) (ws : List Word) → rename_words g (rename_words f ws) ≡ rename_words (λ n. g (f n)) ws
unfolding rename_words
rename_words_joins f g ws = rename_sorted_words g (map (map f) ws) ∙ ap (normal kept) (maps_join f g ws)

rename_words_stays : (ws : List Word) → normal kept ws ≡ ws → rename_words (λ n. n) ws ≡ ws
unfolding rename_words
rename_words_stays ws ok = ap (normal kept) (maps_stay ws) ∙ ok

pub words_rename : Renames rename_words flatten (λ ws. normal kept ws ≡ ws)
words_rename = record { depends = rename_words_depends; joins = rename_words_joins; letters = rename_words_letters; stays = rename_words_stays }

-- the words of a renamed term are the renamed words of the term

map_products : (f : ℕ → ℕ) (us vs : List Word) → map (map f) (products us vs) ≡ products (map (map f) us) (map (map f) vs)
unfolding products
map_products f [] vs = refl
map_products f (u ∷ us) vs = map-append (map f) (map (u ++◌) vs) (products us vs) ∙ ap₂ ◌++◌ (row vs) (map_products f us vs)
  where
    row : (vs : List Word) → map (map f) (map (u ++◌) vs) ≡ map (map f u ++◌) (map (map f) vs)
    row [] = refl
    row (v ∷ vs) = ap₂ ◌∷◌ (map-append f u v) (row vs)

expand_renamed : (f : ℕ → ℕ) (t : Term) → expand (rename_term f t) ≡ map (map f) (expand t)
unfolding rename_term subst expand
expand_renamed f (letter n) = refl
expand_renamed f zero = refl
expand_renamed f one = refl
expand_renamed f (add s t) = ap₂ ◌++◌ (expand_renamed f s) (expand_renamed f t) ∙ sym (map-append (map f) (expand s) (expand t))
expand_renamed f (mul s t) = ap₂ products (expand_renamed f s) (expand_renamed f t) ∙ sym (map_products f (expand s) (expand t))

pub words_renamed : (f : ℕ → ℕ) (t : Term) → words (rename_term f t) ≡ rename_words f (words t)
unfolding rename_words
words_renamed f t =
    words_expand kept (rename_term f t) ∙ ap (normal kept) (expand_renamed f t)
    ∙ sym (ap (rename_words f) (words_expand kept t) ∙ rename_sorted_words f (expand t))

pub words_normal : (t : Term) → normal kept (words t) ≡ words t
words_normal t = rw (words_expand kept t) (normal_normal kept (expand t))

-- and their letters are the term's
pub words_letters : (t : Term) (n : ℕ) → n ∈ flatten (words t) → n ∈ letters t
words_letters t n i =
    each_flat (λ n. n ∈ letters t) (expand t) (each_expanded (λ n. n ∈ letters t) t (λ n j. j)) n
    ((sorted_letters (expand t) n).0 (rw (words_expand kept t) at i))
