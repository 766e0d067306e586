-- A part that is lent from the middle of a list, and comes back with other bytes.
use mathlib.Core.Path.{◌≡◌, ◌∙◌, sym}
use Prim.Native.Nat.{ℕ}
use native.Mathlib.Omega.{arith}
use mathlib.Core.List.{List, [], ◌++◌, append_assoc, append-nil}
use lib.ListN.{length, take, drop, length-append, length-drop, drop_of_length-le}
use lib.Seq.{take_at, drop_at}

-- after f, the next k bytes are replaced by g
pub placed : (f rest g : List ℕ) (a k : ℕ) → length f ≡ a →
    take a (f ++ rest) ++ (g ++ drop k (drop a (f ++ rest))) ≡ f ++ g ++ drop k rest
placed f rest g a k n = rw (take_at f rest a n, drop_at f rest a n) (sym (append_assoc f g (drop k rest)))

-- three parts of four, one after the other, fill a list of twelve
pub three_parts : (l f g h : List ℕ) → length l ≡ 12 → length f ≡ 4 → length g ≡ 4 →
    (let one = f ++ drop 4 (drop 0 l) in
    let two = take 4 one ++ (g ++ drop 4 (drop 4 one)) in
    take 8 two ++ (h ++ drop 4 (drop 8 two))) ≡ f ++ (g ++ h)
three_parts l f g h n nf ng =
    rw (placed f (drop 4 l) g 4 4 nf, placed (f ++ g) (drop 4 (drop 4 l)) h 8 4 (length-append f g ∙ omega (arith, nf, ng)), nothing_left)
    (append-nil (f ++ g ++ h) ∙ append_assoc f g h)
  where
    nothing_left : drop 4 (drop 4 (drop 4 l)) ≡ []
    nothing_left = drop_of_length-le (drop 4 (drop 4 l)) {i = 4} (rw (length-drop 4 (drop 4 l), length-drop 4 l) (omega arith))
