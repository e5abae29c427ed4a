-- Trees of rows: what the search for repeated rows keeps in its table.
use Rattle.std.specs.Prelude.{ℕ, ◌+◌, ◌*◌, ◌/◌, ◌%◌, ◌<◌, ◌≤◌, ◌≡◌, false, List, length, get_or}
use Rattle.definition.specs.14-Book.{Row, row_at, repeats_lower}

-- The bucket of a row.
unfoldable pub bucket_of : Row → ℕ
bucket_of r = (859 * r.kind + 758 * r.code + (708 * r.x + 764 * r.y + 466 * r.z)) % 1021

pub record Bucket (r : Row) (b : ℕ) : Type 0 where
  pub is : b ≡ bucket_of r
  pub below : b < 1021

-- The key of a row, whose bits tell the way.
unfoldable pub key_of : Row → ℕ
key_of r = 281474976710656 * (256 * r.kind + r.code) + (65536 * (65536 * r.x + r.y) + r.z)

-- A slot has 0, or one more than a row, the link to it. The two slots behind a link.
abbrev pub branch : ℕ → ℕ → ℕ
branch link rest = 1022 + 2 * link + rest % 2

-- The way from a slot, by the bits of what is left of the key, comes to the slot `to`.
pub data Leads (links : List ℕ) (to : ℕ) : ℕ → ℕ → Type 0 where
  there : {slot rest : ℕ} → slot ≡ to → Leads links to slot rest
  onward : {slot rest : ℕ} → 0 < get_or links slot 0 → Leads links to (branch (get_or links slot 0) rest) (rest / 2) → Leads links to slot rest

-- Row j stands where the way from the slot comes to.
pub record Found (links : List ℕ) (j slot rest : ℕ) : Type 0 where
  pub to : ℕ
  pub way : Leads links to slot rest
  pub is : get_or links to 0 ≡ j + 1

-- The table where the first k rows stand in the trees of their buckets. A link leads to slots behind its own, so that each way ends.
pub record Linked (s links : List ℕ) (k : ℕ) : Type 0 where
  pub size : length links ≡ 3072
  pub low : (i : ℕ) → get_or links i 0 ≤ k
  pub rises : (i : ℕ) → 0 < get_or links i 0 → i < 1022 + 2 * get_or links i 0
  pub stands : (j : ℕ) → j < k → Found links j (bucket_of (row_at s j)) (key_of (row_at s j))

-- What the walk of row k comes to where it repeats no lower row: the slot that is its own is free.
pub record FreeSlot (s links : List ℕ) (k slot : ℕ) : Type 0 where
  pub new : repeats_lower s k ≡ false
  pub free : get_or links slot 0 ≡ 0
  pub below : slot < 1024 + 2 * k
  pub way : Leads links slot (bucket_of (row_at s k)) (key_of (row_at s k))
