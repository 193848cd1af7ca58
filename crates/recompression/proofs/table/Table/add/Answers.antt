-- What is left to show of `add`. Assumes nothing.
use Rattle.std.proofs.Common.{ℕ, [], ◌∷◌, ◌++◌, sym, ap, ◌∙◌, subst, arith}
use Rattle.rows.specs.declared.Row.{Row}
use Rattle.recompression.specs.Buckets.{IndexOf}
use Rattle.recompression.specs.Tables.{in_use, Sound, appended}
use Rattle.recompression.proofs.SlotFacts.{appended_sound}
use Rattle.recompression.proofs.table.Table.add.Goals as goal

pub invariant_of-self : goal.invariant_of-self
invariant_of-self c =
    let s = c.args.self.now.slots in
    let index = c.append.new.self.index in
    let row = λ (n : ℕ). let made : Row = record { shape = c.args.shape; length = n; round = c.args.round } in made in
    let length_is = c.shape_length-length.ensures in
    record {
      sound =
          subst Sound (sym (c.append.ensures.slots ∙ ap (λ n. appended s (row n) index) length_is))
          (appended_sound s c.args.round c.args.shape index (omega arith) c.args.self.now.sound c.requires
          (subst (λ n. IndexOf (in_use s ++ (row n ∷ [])) index) length_is c.append.ensures.indexed));
    }
