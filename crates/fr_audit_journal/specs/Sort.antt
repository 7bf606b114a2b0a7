-- A list in order, in which those of one place keep the order in which they are given.
use Rattle.std.specs.Prelude.{Bool, List, [], ◌∷◌, if◌then◌else◌}

-- a value before the first that is not before it
abbrev pub inserted : {X : Type 0} → (X → X → Bool) → X → List X → List X
inserted is_before x [] = x ∷ []
inserted is_before x (y ∷ ys) = if is_before y x then y ∷ inserted is_before x ys else x ∷ y ∷ ys

abbrev pub sorted : {X : Type 0} → (X → X → Bool) → List X → List X
sorted is_before [] = []
sorted is_before (x ∷ xs) = inserted is_before x (sorted is_before xs)
