-- Reading a list that holds one value throughout. Assumes nothing.
use Rattle.std.proofs.Common.{◌≡◌, ℕ, zero, suc, get_or, replicate, refl}

-- with that value where there is none, every place reads as it
pub filled_at : {A : Type 0} (n k : ℕ) (a : A) → get_or (replicate n a) k a ≡ a
filled_at zero k a = refl
filled_at (suc n) zero a = refl
filled_at (suc n) (suc k) a = filled_at n k a
