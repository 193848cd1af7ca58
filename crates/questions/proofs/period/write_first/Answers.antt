use Rattle.std.proofs.Common.{◌≡◌, ◌+◌, ◌<◌, List, [], ◌∷◌, ◌++◌, length, get_or, drop, set, sym, refl, ap, ◌∙◌, subst, arith, append_assoc, length-append}
use Rattle.std.proofs.lemmas.List.{drop_more, set_at}
use Rattle.std.proofs.iter.Next.{Yields-more}
use Rattle.std.specs.Iterator.Adapters.{enumerate_source}
use Rattle.periodicity.specs.declared.Progression.{Progression}
use Rattle.questions.proofs.period.write_first.Goals as goal

-- one more record is written
written_more : (xs old records : List Progression) (p : Progression) → length xs < length old → records ≡ xs ++ drop (length xs) old
    → set records (length xs) p ≡ (xs ++ p ∷ []) ++ drop (length (xs ++ p ∷ [])) old
written_more xs old records p room is =
    let many : length xs + 1 ≡ length (xs ++ p ∷ []) = omega (arith, length-append xs (p ∷ [])) in
    ap (λ rs. set rs (length xs) p) (is ∙ ap (λ rs. xs ++ rs) (drop_more old (length xs) p room))
    ∙ set_at xs (get_or old (length xs) p) (drop (length xs + 1) old) p (length xs) refl
    ∙ sym (append_assoc xs (p ∷ []) (drop (length xs + 1) old))
    ∙ ap (λ n. (xs ++ p ∷ []) ++ drop n old) many

pub loop-place-preserved : goal.loop-place-preserved
loop-place-preserved g c =
    let kept = c.loop-place.invariant.2 in
    let steps = c.in-Some.ensures.steps in
    let next = c.in-Some.ensures.goes.on c.loop-place.invariant.1 in
    let place : c.in-Some.place ≡ length kept.0 = steps.1 ∙ kept.2 in
    let many = length-append kept.0 (c.in-Some.record ∷ []) in (
      next.0,
      next.1,
      (
        kept.0 ++ c.in-Some.record ∷ [],
        Yields-more g.I.Iterator.next_gives c.args.new kept.0 (enumerate_source c.loop-place.place-iterator) c.in-Some.record (enumerate_source c.next.new.self) kept.1 steps.0,
        omega (arith, steps.2, kept.2, many),
        omega (arith, kept.3, next.2, many),
        subst (λ i. set c.loop-place.records i c.in-Some.record ≡ (kept.0 ++ c.in-Some.record ∷ []) ++ drop (length (kept.0 ++ c.in-Some.record ∷ [])) c.args.records.now) (sym place)
            (written_more kept.0 c.args.records.now c.loop-place.records c.in-Some.record (omega (arith, kept.3, next.2, c.requires.room)) kept.4),
      ),
    )
