-- What is made of the same parts is the same.
use Rattle.std.specs.Prelude.{◌≡◌}

pub two : {A B X : Type 0} (f : A → B → X) {a a' : A} {b b' : B} → a ≡ a' → b ≡ b' → f a b ≡ f a' b'
two f k₁ k₂ = cc

pub three : {A B C X : Type 0} (f : A → B → C → X) {a a' : A} {b b' : B} {c c' : C} → a ≡ a' → b ≡ b' → c ≡ c' → f a b c ≡ f a' b' c'
three f k₁ k₂ k₃ = cc

pub four : {A B C D X : Type 0} (f : A → B → C → D → X) {a a' : A} {b b' : B} {c c' : C} {d d' : D}
    → a ≡ a' → b ≡ b' → c ≡ c' → d ≡ d' → f a b c d ≡ f a' b' c' d'
four f k₁ k₂ k₃ k₄ = cc

pub five : {A B C D E X : Type 0} (f : A → B → C → D → E → X) {a a' : A} {b b' : B} {c c' : C} {d d' : D} {e e' : E}
    → a ≡ a' → b ≡ b' → c ≡ c' → d ≡ d' → e ≡ e' → f a b c d e ≡ f a' b' c' d' e'
five f k₁ k₂ k₃ k₄ k₅ = cc

pub six : {A B C D E F X : Type 0} (f : A → B → C → D → E → F → X) {a a' : A} {b b' : B} {c c' : C} {d d' : D} {e e' : E} {g g' : F}
    → a ≡ a' → b ≡ b' → c ≡ c' → d ≡ d' → e ≡ e' → g ≡ g' → f a b c d e g ≡ f a' b' c' d' e' g'
six f k₁ k₂ k₃ k₄ k₅ k₆ = cc
