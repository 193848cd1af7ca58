-- Records are written one after the other. Assumes nothing.
use Rattle.std.proofs.Common.{◌≡◌, ℕ, ◌+◌, ◌<◌, ◌≤◌, List, [], ◌++◌, length, get_or, drop, codes as ascii, sym, refl, ap, ◌∙◌, append_assoc, append-nil, arith}
use Rattle.std.specs.Fmt.{IsPlainFormatter, HasWritten}
use Rattle.std.specs.declared.fmt.Formatter.{Formatter}
use Rattle.std.proofs.Output.{writes_in_calls_nil, has_written_append, has_written_of_eq}
use Rattle.std.proofs.lemmas.List.{at_drop_more, at_drop_all}
use Rattle.std.proofs.lemmas.Bool.{cond-true, cond-false, eq-eqb, ne_eqb}
use Rattle.periodicity.specs.declared.Progression.{Progression}
use Rattle.periodicity.specs.Progressions.{triple, triple_text}
use Rattle.ask.specs.Answers.{triples_text}

module _ {W : Type 0} (took : W → List ℕ → W → Type 0) where
  -- from f to h the text `done` was written, and with the records that are left it is the text of all
  pub record Sofar (f : Formatter W) (all : List Progression) (before : List ℕ) (left : List Progression) (h : Formatter W) : Type 0 where
    pub done : List ℕ
    pub put : IsPlainFormatter f → HasWritten took f done h
    pub whole : done ++ triples_text before left ≡ triples_text (ascii " ") all

  pub sofar_none : (f : Formatter W) (all : List Progression) → Sofar f all (ascii " ") all f
  sofar_none f all = record { done = []; put = λ plain. record { wrote = writes_in_calls_nil took _; plain = plain }; whole = refl }

  module _ (f : Formatter W) (all : List Progression) (before : List ℕ) (i : ℕ) (h : Formatter W) (so : Sofar f all before (drop i all) h) where
    -- the record at i is not in use
    pub sofar_skip : i < length all → (get_or all i (triple 0 0 0)).count ≡ 0 → Sofar f all before (drop (i + 1) all) h
    sofar_skip within none =
        let next = at_drop_more (triples_text before) all i (triple 0 0 0) within in
        record {
          done = so.done;
          put = so.put;
          whole = ap (λ l. so.done ++ l) (sym (next ∙ cond-true _ _ _ (eq-eqb (get_or all i (triple 0 0 0)).count 0 none))) ∙ so.whole;
        }

    -- it is, and was written
    pub sofar_more : (k : Formatter W) → i < length all → 0 < (get_or all i (triple 0 0 0)).count → (IsPlainFormatter h → HasWritten took h (before ++ triple_text (get_or all i (triple 0 0 0))) k) → Sofar f all (ascii " / ") (drop (i + 1) all) k
    sofar_more k within some written =
        let one = triple_text (get_or all i (triple 0 0 0)) in
        let rest = triples_text (ascii " / ") (drop (i + 1) all) in
        let next = at_drop_more (triples_text before) all i (triple 0 0 0) within in
        record {
          done = so.done ++ (before ++ one);
          put = λ plain. let first = so.put plain in has_written_append took f so.done h (before ++ one) k first (written first.plain);
          whole = append_assoc so.done (before ++ one) rest ∙ ap (λ l. so.done ++ l) (append_assoc before one rest ∙ sym (next ∙ cond-false _ _ _ (ne_eqb (get_or all i (triple 0 0 0)).count 0 (λ e. omega arith)))) ∙ so.whole;
        }

    -- there is none
    pub sofar_all : length all ≤ i → IsPlainFormatter f → HasWritten took f (triples_text (ascii " ") all) h
    sofar_all past plain =
        has_written_of_eq took f so.done _ h (sym (append-nil so.done) ∙ ap (λ l. so.done ++ l) (sym (at_drop_all (triples_text before) all i past)) ∙ so.whole) (so.put plain)

pub ruleset recording = (sofar_none, sofar_all)
