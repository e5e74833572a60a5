-- The tracked rows with their counts, as a list: look up, drop, raise, enter in order, pick.
use Rattle.std.specs.Prelude.{ℕ, zero, suc, ◌+◌, Bool, false, ◌||◌, cond, List, [], ◌∷◌, ltb, eqb}

-- a tracked row ('tracked rows') and its count ('counts')
pub record Entry : Type 0 where
  pub row : ℕ
  pub count : ℕ

-- the first table, 'rows': the entries' rows in their order
unfoldable pub rows_of : List Entry → List ℕ
rows_of [] = []
rows_of (x ∷ xs) = x.row ∷ rows_of xs

-- the second table, 'counts': the entries' counts in their order
unfoldable pub counts_of : List Entry → List ℕ
counts_of [] = []
counts_of (x ∷ xs) = x.count ∷ counts_of xs

-- whether a row is tracked
unfoldable pub has : ℕ → List Entry → Bool
has row [] = false
has row (x ∷ xs) = eqb x.row row || has row xs

-- the count of a row that is tracked, else another number
unfoldable pub count_or : ℕ → ℕ → List Entry → ℕ
count_or other row [] = other
count_or other row (x ∷ xs) = cond (eqb x.row row) x.count (count_or other row xs)

-- 'the row is dropped .. if tracked'
unfoldable pub without : ℕ → List Entry → List Entry
without row [] = []
without row (x ∷ xs) = cond (eqb x.row row) xs (x ∷ without row xs)

-- 'all .. are dropped'
unfoldable pub without_all : List ℕ → List Entry → List Entry
without_all [] es = es
without_all (row ∷ rows) es = without_all rows (without row es)

-- 'its count rises by 1'
unfoldable pub raised : ℕ → List Entry → List Entry
raised row [] = []
raised row (x ∷ xs) = cond (eqb x.row row) (record { row = x.row; count = x.count + 1 } ∷ xs) (x ∷ raised row xs)

-- a row 'is entered' with a count, 'strictly ascending by row'
unfoldable pub entered : ℕ → ℕ → List Entry → List Entry
entered row count [] = record { row = row; count = count } ∷ []
entered row count (x ∷ xs) =
    cond (ltb row x.row) (record { row = row; count = count } ∷ x ∷ xs) (x ∷ entered row count xs)

-- whether 'some tracked row's count equals' a number
unfoldable pub has_count : ℕ → List Entry → Bool
has_count count [] = false
has_count count (x ∷ xs) = eqb x.count count || has_count count xs

-- 'the lowest-numbered of those', which is the first, 'is dropped'
unfoldable pub without_count : ℕ → List Entry → List Entry
without_count count [] = []
without_count count (x ∷ xs) = cond (eqb x.count count) xs (x ∷ without_count count xs)

-- the first entry of the highest count, among one and those behind it
unfoldable pub top : Entry → List Entry → Entry
top best [] = best
top best (x ∷ xs) = cond (ltb best.count x.count) (top x xs) (top best xs)

-- 'the V tracked rows of highest count, equal counts by lower row; all of them if fewer are tracked'
unfoldable pub picks : ℕ → List Entry → List ℕ
picks zero es = []
picks (suc k) [] = []
picks (suc k) (x ∷ xs) = (top x xs).row ∷ picks k (without (top x xs).row (x ∷ xs))
