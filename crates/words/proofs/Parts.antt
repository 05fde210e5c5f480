-- Parts of a list: the end, lent and given back; a list stored at the front of another.
use Rattle.std.proofs.Common.{◌≡◌, ℕ, ◌-◌, ◌≤◌, List, ◌++◌, length, take, drop, append-nil, zero-add, arith, length-drop, drop_of_length-le, take_all}
use lib.Seq.{sets}
use borrow.Rule.Slice.PartMut.{mid_of, put_mid}
use Rattle.words.proofs.Stores.{take_stored}

module _ (xs : List ℕ) (n : ℕ) where
  whole : length (drop n xs) ≤ length xs - n
  whole = omega (arith, length-drop n xs)

  pub end_lent : mid_of n (length xs - n) xs ≡ drop n xs
  end_lent = take_all (length xs - n) (drop n xs) whole

  pub end_back : (ys : List ℕ) → put_mid n (length xs - n) xs ys ≡ take n xs ++ ys
  end_back ys = rw (drop_of_length-le (drop n xs) whole, append-nil)

pub front_stored : (xs ys : List ℕ) → length ys ≤ length xs → take (length ys) (sets xs 0 ys) ≡ ys
front_stored xs ys h = rw zero-add at (take_stored xs 0 ys (omega arith))
