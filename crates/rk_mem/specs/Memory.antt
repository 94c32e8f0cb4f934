-- Memtables and pins, as contracts see them.
use Rattle.std.specs.Prelude.{◌≡◌, ℕ, ◌+◌, ◌^◌, ◌≤◌, List, [], ◌∷◌, ◌++◌, length}
use Rattle.std.specs.List.{AllByRecursion, flat_map}
use Rattle.std.specs.List.Sorted.{IsPermutation}
use Rattle.rk_model.specs.declared.op.Entry.{Entry}
use Rattle.rk_mem.specs.Chunks.{AreNewer, IsArranged}

-- the entries, and how many bytes their batches have
pub record Memory : Type 0 where
  pub entries : List Entry
  pub bytes : ℕ

abbrev pub nothing : Memory
nothing = record { entries = []; bytes = 0 }

-- the entries before and these, and the bytes added
pub record IsGrown (before : Memory) (entries : List Entry) (bytes : ℕ) (now : Memory) : Type 0 where
  pub same : IsPermutation (before.entries ++ entries) now.entries
  pub added : now.bytes ≡ before.bytes + bytes

-- what holds of each two items, the first of which stands before the second
abbrev pub EachTwo : {A : Type 0} → (A → A → Type 0) → List A → Type 0
EachTwo R [] = Unit {0}
EachTwo R (x ∷ xs) = AllByRecursion (R x) xs × EachTwo R xs

-- the entries of chunks, one chunk after the other
abbrev pub entries_of : List (List Entry) → List Entry
entries_of chunks = flat_map (λ chunk. chunk) chunks

-- Chunks of these entries, the newest last. Of n entries they are no more than n has binary digits: two to their
-- number is at most n + 1, and so at most 2 n where there is an entry.
pub record AreChunksOf (entries : List Entry) (chunks : List (List Entry)) : Type 0 where
  pub all : entries_of chunks ≡ entries
  pub arranged : AllByRecursion IsArranged chunks
  pub newer : EachTwo AreNewer chunks
  pub few : 2 ^ length chunks ≤ length entries + 1

-- the chunks of a memory up to a number
pub record Pinned : Type 0 where
  pub number : ℕ
  pub chunks : List (List Entry)
