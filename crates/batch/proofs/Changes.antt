-- Lists of records that agree in all bytes but those of one record.
use mathlib.Core.Path.{◌≡◌, refl, sym, ◌∙◌, ap}
use Prim.Native.Nat.{ℕ, ◌+◌, ◌-◌, ◌*◌, min, ◌≤◌, ◌<◌}
use native.Mathlib.Nat.{add-sub_of_le, suc-mul}
use native.Mathlib.Omega.{arith}
use mathlib.Core.Bool.{Bool, true, false}
use mathlib.Core.List.{List, ◌++◌}
use lib.Dec.{ltb}
use lib.ListN.{length, get_or, drop, length-append, length-take, length-drop, get_or-append, get_or-eq_default}
use lib.Seq.{get_or-take, get_or-drop, get_or-append-add, ext_get_or}
use borrow.Author.Tests.{ltb-true, ltb-false}
use Rattle.questions.specs.Record.{question_bytes, question_at}
use Rattle.batch.specs.Laws.{SameBut}

-- every other question is the same
pub same_question : (j k : ℕ) (s u : List ℕ) → SameBut question_bytes j s u → (k ≡ j → ⊥) → question_at k s ≡ question_at k u
same_question j k s u same other = ext_get_or 0 (question_at k s) (question_at k u) same_lengths (λ i h. bytes i h (ltb k j) refl)
  where
    same_lengths : length (question_at k s) ≡ length (question_at k u)
    same_lengths =
        length-take question_bytes (drop (k * question_bytes) s) ∙
        ap (λ (n : ℕ). min question_bytes n)
        (length-drop (k * question_bytes) s ∙ ap (λ (n : ℕ). n - k * question_bytes) same.same_length ∙ sym (length-drop (k * question_bytes) u)) ∙
        sym (length-take question_bytes (drop (k * question_bytes) u))

    byte : (v : List ℕ) (i : ℕ) → i < question_bytes → get_or (question_at k v) i 0 ≡ get_or v (k * question_bytes + i) 0
    byte v i h = get_or-take question_bytes (drop (k * question_bytes) v) i 0 h ∙ get_or-drop (k * question_bytes) v i 0

    bytes : (i : ℕ) → i < length (question_at k s) → (v : Bool) → ltb k j ≡ v → get_or (question_at k s) i 0 ≡ get_or (question_at k u) i 0
    bytes i h v e =
        let within : i < question_bytes = omega (arith, h, length-take question_bytes (drop (k * question_bytes) s)) in
        byte s i within ∙ go v e within ∙ sym (byte u i within)
      where
        go : (v : Bool) → ltb k j ≡ v → i < question_bytes → get_or s (k * question_bytes + i) 0 ≡ get_or u (k * question_bytes + i) 0
        go true e within = let m = ltb-true k j e in same.before (k * question_bytes + i) (omega arith)
        go false e within = let m = ltb-false k j e in same.after (k * question_bytes + i) (omega (arith, other))

module _ (size j : ℕ) (x y : List ℕ) where
  -- followed by the same bytes, they still agree
  pub followed : (z : List ℕ) → SameBut size j x y → SameBut size j (x ++ z) (y ++ z)
  followed z same =
      record {
        same_length = length-append x z ∙ ap (λ (n : ℕ). n + length z) same.same_length ∙ sym (length-append y z);
        before = λ i h. byte i (same.before i h) (ltb i (length x)) refl;
        after = λ i h. byte i (same.after i h) (ltb i (length x)) refl;
      }
    where
      past : (v : List ℕ) (i : ℕ) → length v ≤ i → get_or (v ++ z) i 0 ≡ get_or z (i - length v) 0
      past v i h = ap (λ (n : ℕ). get_or (v ++ z) n 0) (sym (add-sub_of_le h)) ∙ get_or-append-add v z (i - length v) 0

      byte : (i : ℕ) → get_or x i 0 ≡ get_or y i 0 → (v : Bool) → ltb i (length x) ≡ v → get_or (x ++ z) i 0 ≡ get_or (y ++ z) i 0
      byte i e true t =
          let h = ltb-true i (length x) t in
          get_or-append x z 0 i h ∙ e ∙ sym (get_or-append y z 0 i (omega (arith, same.same_length)))
      byte i e false t =
          let h = ltb-false i (length x) t in
          past x i h ∙ ap (λ (n : ℕ). get_or z (i - n) 0) same.same_length ∙ sym (past y i (omega (arith, same.same_length)))

  -- followed by record j, which may differ
  pub changed_record : (e f : List ℕ) → SameBut size j x y → length x ≡ j * size → length e ≡ size → length f ≡ size → SameBut size j (x ++ e) (y ++ f)
  changed_record e f same at le lf =
      record {
        same_length = length-append x e ∙ omega (arith, same.same_length, le, lf) ∙ sym (length-append y f);
        before = λ i h.
            get_or-append x e 0 i (omega (arith, at)) ∙ same.before i h ∙ sym (get_or-append y f 0 i (omega (arith, at, same.same_length)));
        after = λ i h.
            get_or-eq_default (x ++ e) 0 (omega (arith, h, at, le, length-append x e, suc-mul j size)) ∙
            sym (get_or-eq_default (y ++ f) 0 (omega (arith, h, at, lf, length-append y f, same.same_length, suc-mul j size)));
      }
