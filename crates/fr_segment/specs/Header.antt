-- The first record of a file: whose the file is, and which of its owner's files.
use Rattle.std.specs.Prelude.{◌≡◌, ℕ, ◌<◌, ◌^◌, List, ◌∷◌, ◌++◌, length}
use Rattle.std.specs.Int.{w32, w64, to_be_bytes}

-- `fdbrec`, the format 2, the number of the file, and whose it is
abbrev pub header : ℕ → List ℕ → List ℕ
header number identity = 102 ∷ 100 ∷ 98 ∷ 114 ∷ 101 ∷ 99 ∷ 2 ∷ (to_be_bytes w64 number ++ identity)

-- whose a file is: the cluster, in 16 bytes, the node, its length before it, and the shape
abbrev pub identity : List ℕ → List ℕ → List ℕ → List ℕ
identity cluster node shape = cluster ++ (to_be_bytes w32 (length node) ++ (node ++ shape))

-- a record is the header of one number and one identity at most
abbrev pub OneFile : Type 0
OneFile = (m n : ℕ) (a b : List ℕ) → m < 2 ^ 64 → n < 2 ^ 64 → header m a ≡ header n b → (m ≡ n) × (a ≡ b)

-- an identity is that of one cluster, one node and one shape at most
abbrev pub OneOwner : Type 0
OneOwner =
    (cluster node shape cluster' node' shape' : List ℕ) → length cluster ≡ 16 → length cluster' ≡ 16 → length node < 2 ^ 32 → length node' < 2 ^ 32
    → identity cluster node shape ≡ identity cluster' node' shape' → (cluster ≡ cluster') × (node ≡ node') × (shape ≡ shape')
