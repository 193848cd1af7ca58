-- One strip has one number, and one number has one strip, on rows that only grow. Assumes nothing.
use Rattle.std.proofs.Common.{◌≡◌, ℕ, ◌≤◌, ◌↔◌, List, [], ◌∷◌, ◌++◌, length, Some, sym, refl, ap, ◌∙◌, arith, length-append}
use Rattle.std.proofs.lemmas.List.{append-nil}
use Rattle.rows.specs.declared.Row.{Row}
use Rattle.rows.specs.Laws.{AllInUse}
use Rattle.rows.specs.Lawful.{Lawful}
use Rattle.rows.specs.Rounds.{Settled, settle, number_left}
use Rattle.rows.specs.Strips.{strip}
use Rattle.rows.proofs.NamingFacts.{settle_replay}
use Rattle.rows.proofs.SettleFacts.{settles, strip_settled}
use Rattle.rows.proofs.StripFacts.{strip_append}

-- a strip stands on rows under a number: it is the number's strip, and settles to it with nothing added
pub record Stands (rows : List Row) (codes : List ℕ) (n : ℕ) : Type 0 where
  pub known : n ≤ length rows
  pub writes : strip rows n ≡ codes
  pub numbers : List ℕ
  pub rounds : ℕ
  pub comes : settle rows codes ≡ Some (record { numbers = numbers; rows = rows; rounds = rounds })
  pub is : number_left numbers ≡ n

left_known : (rows : List Row) (numbers : List ℕ) → AllInUse rows numbers → number_left numbers ≤ length rows
left_known rows [] known = omega arith
left_known rows (n ∷ numbers) known = known.0.1

-- what was settled stands
pub settled_stands : (rows : List Row) (codes : List ℕ) (s : Settled) → Lawful rows → length codes ≤ 65535 → settle rows codes ≡ Some s → Stands s.rows codes (number_left s.numbers)
settled_stands rows codes s law short h =
    let all = settles rows codes s law short h in
    let again = settle_replay rows codes s [] h in
    record {
      known = left_known s.rows s.numbers all.known;
      writes = strip_settled rows codes s all;
      numbers = s.numbers;
      rounds = s.rounds;
      comes = ap (λ rs. settle rs codes) (sym (append-nil s.rows)) ∙ again ∙ ap (λ rs. Some (record { numbers = s.numbers; rows = rs; rounds = s.rounds })) (append-nil s.rows);
      is = refl;
    }

-- and goes on standing when rows are added
pub stands_append : (rows more : List Row) (codes : List ℕ) (n : ℕ) → Stands rows codes n → Stands (rows ++ more) codes n
stands_append rows more codes n stands =
    record {
      known = omega (arith, stands.known, length-append rows more);
      writes = strip_append rows more n stands.known ∙ stands.writes;
      numbers = stands.numbers;
      rounds = stands.rounds;
      comes = settle_replay rows codes (record { numbers = stands.numbers; rows = rows; rounds = stands.rounds }) more stands.comes;
      is = stands.is;
    }

-- two strips that stand on the same rows have equal numbers exactly when they are equal
pub one_number : (rows : List Row) (a b : List ℕ) (m n : ℕ) → Stands rows a m → Stands rows b n → (m ≡ n) ↔ (a ≡ b)
one_number rows a b m n left right = (
  λ same. sym left.writes ∙ ap (strip rows) same ∙ right.writes,
  λ same.
      let both : Some (record { numbers = left.numbers; rows = rows; rounds = left.rounds }) ≡ Some (record { numbers = right.numbers; rows = rows; rounds = right.rounds }) =
      sym left.comes ∙ ap (settle rows) same ∙ right.comes in
      sym left.is ∙ same_number (record { numbers = left.numbers; rows = rows; rounds = left.rounds }) (record { numbers = right.numbers; rows = rows; rounds = right.rounds }) both ∙ right.is,
)
  where
    same_number : (s t : Settled) → Some s ≡ Some t → number_left s.numbers ≡ number_left t.numbers
    same_number s t e = let f : s ≡ t = cc in ap (λ r. number_left r.numbers) f
