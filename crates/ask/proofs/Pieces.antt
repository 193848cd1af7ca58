-- What stands in front of the first blank or newline is the first piece. Assumes nothing.
use Rattle.std.proofs.Common.{◌≡◌, ℕ, suc, ◌+◌, ◌-◌, ◌<◌, ◌≤◌, Bool, true, false, not, cond, ltb, Some, None, List, [], ◌∷◌, ◌++◌, length, take, drop, sym, refl, ap, ◌∙◌, subst₂, append_assoc, append-nil, one-add, arith, length-drop, length-take-le}
use Rattle.std.specs.List.{prefix_len, position_or_len, position}
use Rattle.std.proofs.lemmas.List.{take_rest, drop_all}
use Rattle.std.proofs.lemmas.List.Sums.{prefix_len-le-length}
use Rattle.std.proofs.lemmas.Bool.{cond-true, cond-false, ltb-true, ltb-false, not_from_true, not_from_false}
use Rattle.ask.specs.Words.{is_blank, is_newline, ended, words_after, words_of, lines_after, lines_of, CutOff}

-- how many bytes pass at the front, by the first of them
pub leading_yes : (p : ℕ → Bool) (b : ℕ) (bs : List ℕ) → p b ≡ true → prefix_len p (b ∷ bs) ≡ suc (prefix_len p bs)
leading_yes p b bs e = cond-true (p b) _ _ e ∙ one-add (prefix_len p bs)

pub leading_no : (p : ℕ → Bool) (b : ℕ) (bs : List ℕ) → p b ≡ false → prefix_len p (b ∷ bs) ≡ 0
leading_no p b bs e = cond-false (p b) _ _ e

-- a byte of a word, and a byte of a line
abbrev pub visible : ℕ → Bool
visible b = not (is_blank b)

abbrev pub inside : ℕ → Bool
inside b = not (is_newline b)

-- blanks in front of a line are passed over
pub words_skip : (bs : List ℕ) → words_after [] bs ≡ words_after [] (drop (prefix_len is_blank bs) bs)
words_skip [] = refl
words_skip (b ∷ bs) = go (is_blank b) refl (words_skip bs)
  where
    go : (t : Bool) → is_blank b ≡ t → words_after [] bs ≡ words_after [] (drop (prefix_len is_blank bs) bs) → words_after [] (b ∷ bs) ≡ words_after [] (drop (prefix_len is_blank (b ∷ bs)) (b ∷ bs))
    go true e rest = cond-true (is_blank b) _ _ e ∙ rest ∙ ap (λ n. words_after [] (drop n (b ∷ bs))) (sym (leading_yes is_blank b bs e))
    go false e rest = ap (λ n. words_after [] (drop n (b ∷ bs))) (sym (leading_no is_blank b bs e))

-- what stands before the first blank ends the word that has begun
pub words_cut : (so_far bs : List ℕ) → words_after so_far bs ≡ ended (so_far ++ take (prefix_len visible bs) bs) (words_after [] (drop (prefix_len visible bs) bs))
words_cut so_far [] = ap (λ w. ended w []) (sym (append-nil so_far))
words_cut so_far (b ∷ bs) = go (is_blank b) refl (words_cut (so_far ++ (b ∷ [])) bs)
  where
    cut_at : ℕ → List (List ℕ)
    cut_at = λ n. ended (so_far ++ take n (b ∷ bs)) (words_after [] (drop n (b ∷ bs)))

    go : (t : Bool) → is_blank b ≡ t → words_after (so_far ++ (b ∷ [])) bs ≡ ended ((so_far ++ (b ∷ [])) ++ take (prefix_len visible bs) bs) (words_after [] (drop (prefix_len visible bs) bs)) → words_after so_far (b ∷ bs) ≡ cut_at (prefix_len visible (b ∷ bs))
    go true e rest =
        cond-true (is_blank b) _ _ e ∙ ap (λ w. ended w (words_after [] bs)) (sym (append-nil so_far)) ∙ ap (λ ws. ended (so_far ++ []) ws) (sym (cond-true (is_blank b) _ _ e)) ∙ ap cut_at (sym (leading_no visible b bs (not_from_true (is_blank b) e)))
    go false e rest =
        cond-false (is_blank b) _ _ e ∙ rest ∙ ap (λ w. ended w (words_after [] (drop (prefix_len visible bs) bs))) (append_assoc so_far (b ∷ []) (take (prefix_len visible bs) bs)) ∙ ap cut_at (sym (leading_yes visible b bs (not_from_false (is_blank b) e)))

-- behind the blanks in front there is a word, unless there is nothing
none_behind : (bs : List ℕ) → prefix_len visible (drop (prefix_len is_blank bs) bs) ≡ 0 → drop (prefix_len is_blank bs) bs ≡ []
none_behind [] e = refl
none_behind (b ∷ bs) e = go (is_blank b) refl (none_behind bs)
  where
    go : (t : Bool) → is_blank b ≡ t → (prefix_len visible (drop (prefix_len is_blank bs) bs) ≡ 0 → drop (prefix_len is_blank bs) bs ≡ []) → drop (prefix_len is_blank (b ∷ bs)) (b ∷ bs) ≡ []
    go true f rest =
        let same = leading_yes is_blank b bs f in
        ap (λ n. drop n (b ∷ bs)) same ∙ rest (sym (ap (λ n. prefix_len visible (drop n (b ∷ bs))) same) ∙ e)
    go false f rest =
        let none = leading_no is_blank b bs f in
        let more = leading_yes visible b bs (not_from_false (is_blank b) f) in
        let here = sym (ap (λ n. prefix_len visible (drop n (b ∷ bs))) none) ∙ e in
        absurd (omega arith)

ended_some : (piece : List ℕ) (pieces : List (List ℕ)) → 0 < length piece → ended piece pieces ≡ piece ∷ pieces
ended_some [] pieces h = absurd (omega arith)
ended_some (b ∷ bs) pieces h = refl

-- the line without the blanks in front, as the code cuts it
unblanked : (bs : List ℕ) (start : ℕ) → start ≡ prefix_len is_blank bs → take (length bs - start) (drop start bs) ≡ drop (prefix_len is_blank bs) bs
unblanked bs start e = take_rest bs start ∙ ap (λ n. drop n bs) e

-- where a place was found, and where none was
place_some : (n len place : ℕ) → cond (ltb n len) (Some n) None ≡ Some place → (place ≡ n) × (n < len)
place_some n len place is = by (ltb n len) refl is
  where
    by : (b : Bool) → ltb n len ≡ b → cond b (Some n) None ≡ Some place → (place ≡ n) × (n < len)
    by true less found = (cc, ltb-true n len less)
    by false more found = cc

place_none : (n len : ℕ) → cond (ltb n len) (Some n) None ≡ None → len ≤ n
place_none n len is = by (ltb n len) refl is
  where
    by : (b : Bool) → ltb n len ≡ b → cond b (Some n) None ≡ None → len ≤ n
    by true less none = cc
    by false more none = ltb-false n len more

-- the first byte of a word stands behind the blanks in front
twice : (t : Bool) (m n : ℕ) → cond (not (not t)) m n ≡ cond t m n
twice true m n = refl
twice false m n = refl

first_visible : (bs : List ℕ) → position_or_len visible bs ≡ prefix_len is_blank bs
first_visible [] = refl
first_visible (b ∷ bs) = twice (is_blank b) _ _ ∙ ap (λ n. cond (is_blank b) (1 + n) 0) (first_visible bs)

pub no_word : (bs : List ℕ) → position visible bs ≡ None → words_of bs ≡ []
unfolding words_of
no_word bs none =
    let past = place_none (position_or_len visible bs) (length bs) none in
    words_skip bs ∙ ap (words_after []) (drop_all (prefix_len is_blank bs) bs (omega (arith, first_visible bs)))

word_at : (bs rest : List ℕ) → rest ≡ drop (prefix_len is_blank bs) bs → 0 < prefix_len visible rest → CutOff words_of bs (take (prefix_len visible rest) rest) (drop (prefix_len visible rest) rest)
unfolding words_of
word_at bs rest e some =
    let within = prefix_len-le-length visible rest in
    let long = length-take-le (prefix_len visible rest) rest within in
    let left = length-drop (prefix_len visible rest) rest in
    let behind = ap length e ∙ length-drop (prefix_len is_blank bs) bs in
    record {
      pieces = words_skip bs ∙ ap (words_after []) (sym e) ∙ words_cut [] rest ∙ ended_some _ _ (omega arith);
      shorter = omega arith;
    }

-- the first word, by the place of its first byte and how long it is
positive : (n : ℕ) → (n ≡ 0 → ⊥) → 0 < n
positive n some = omega arith

pub first_word : (bs : List ℕ) (start size : ℕ) (word rest : List ℕ) → position visible bs ≡ Some start → size ≡ prefix_len visible (take (length bs - start) (drop start bs)) → word ≡ take size (take (length bs - start) (drop start bs)) → rest ≡ drop size (take (length bs - start) (drop start bs)) → CutOff words_of bs word rest
first_word bs start size word rest is long front back =
    let at = place_some (position_or_len visible bs) (length bs) start is in
    let shown = take (length bs - start) (drop start bs) in
    let behind = unblanked bs start (at.0 ∙ first_visible bs) in
    let left = ap length behind ∙ length-drop (prefix_len is_blank bs) bs in
    let none : prefix_len visible shown ≡ 0 → length shown ≡ 0 = λ e. ap length behind ∙ ap length (none_behind bs (sym (ap (prefix_len visible) behind) ∙ e)) in
    let some : 0 < prefix_len visible shown = positive (prefix_len visible shown) (λ e. omega (arith, none e, left, at, first_visible bs)) in
    let found = word_at bs shown behind some in
    subst₂ (CutOff words_of bs) (sym (front ∙ ap (λ n. take n shown) long)) (sym (back ∙ ap (λ n. drop n shown) long)) found

-- what stands before the first newline is the line that has begun; where there is none, it is all that is left
pub lines_cut : (so_far bs : List ℕ) → prefix_len inside bs < length bs → lines_after so_far bs ≡ (so_far ++ take (prefix_len inside bs) bs) ∷ lines_after [] (drop (suc (prefix_len inside bs)) bs)
lines_cut so_far [] h = absurd (omega arith)
lines_cut so_far (b ∷ bs) h = go (is_newline b) refl (lines_cut (so_far ++ (b ∷ [])) bs)
  where
    cut_at : ℕ → List (List ℕ)
    cut_at = λ n. (so_far ++ take n (b ∷ bs)) ∷ lines_after [] (drop (suc n) (b ∷ bs))

    go : (t : Bool) → is_newline b ≡ t → (prefix_len inside bs < length bs → lines_after (so_far ++ (b ∷ [])) bs ≡ ((so_far ++ (b ∷ [])) ++ take (prefix_len inside bs) bs) ∷ lines_after [] (drop (suc (prefix_len inside bs)) bs)) → lines_after so_far (b ∷ bs) ≡ cut_at (prefix_len inside (b ∷ bs))
    go true e rest =
        cond-true (is_newline b) _ _ e ∙ ap (λ l. l ∷ lines_after [] bs) (sym (append-nil so_far)) ∙ ap cut_at (sym (leading_no inside b bs (not_from_true (is_newline b) e)))
    go false e rest =
        let same = leading_yes inside b bs (not_from_false (is_newline b) e) in
        cond-false (is_newline b) _ _ e ∙ rest (omega arith) ∙ ap (λ l. l ∷ lines_after [] (drop (suc (prefix_len inside bs)) bs)) (append_assoc so_far (b ∷ []) (take (prefix_len inside bs) bs)) ∙ ap cut_at (sym same)

pub lines_end : (so_far bs : List ℕ) → prefix_len inside bs ≡ length bs → lines_after so_far bs ≡ ended (so_far ++ bs) []
lines_end so_far [] h = ap (λ l. ended l []) (sym (append-nil so_far))
lines_end so_far (b ∷ bs) h = go (is_newline b) refl (lines_end (so_far ++ (b ∷ [])) bs)
  where
    go : (t : Bool) → is_newline b ≡ t → (prefix_len inside bs ≡ length bs → lines_after (so_far ++ (b ∷ [])) bs ≡ ended ((so_far ++ (b ∷ [])) ++ bs) []) → lines_after so_far (b ∷ bs) ≡ ended (so_far ++ (b ∷ bs)) []
    go true e rest = let none = leading_no inside b bs (not_from_true (is_newline b) e) in absurd (omega arith)
    go false e rest =
        let same = leading_yes inside b bs (not_from_false (is_newline b) e) in
        cond-false (is_newline b) _ _ e ∙ rest (omega arith) ∙ ap (λ l. ended l []) (append_assoc so_far (b ∷ []) bs)

pub no_line : (bs : List ℕ) → length bs ≡ 0 → lines_of bs ≡ []
unfolding lines_of
no_line [] h = refl
no_line (b ∷ bs) h = absurd (omega arith)

pub first_line : (bs : List ℕ) (size : ℕ) → position is_newline bs ≡ Some size → CutOff lines_of bs (take size bs) (take (length bs - (size + 1)) (drop (size + 1) bs))
unfolding lines_of
first_line bs size is =
    let at = place_some (prefix_len inside bs) (length bs) size is in
    let left = length-drop (size + 1) bs in
    let back = take_rest bs (size + 1) in
    let next : size + 1 ≡ suc (prefix_len inside bs) = omega (arith, at.0) in
    record {
      pieces = lines_cut [] bs at.1 ∙ (λ i. take (sym at.0 i) bs ∷ lines_after [] ((sym (ap (λ n. drop n bs) next) ∙ sym back) i));
      shorter = rw back (omega (arith, at));
    }

pub last_line : (bs : List ℕ) → (length bs ≡ 0 → ⊥) → position is_newline bs ≡ None → CutOff lines_of bs bs []
unfolding lines_of
last_line bs some is =
    let past = place_none (prefix_len inside bs) (length bs) is in
    let within = prefix_len-le-length inside bs in
    record {
      pieces = lines_end [] bs (omega arith) ∙ ended_some bs [] (omega arith);
      shorter = omega arith;
    }
