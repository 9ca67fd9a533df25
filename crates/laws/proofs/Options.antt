-- What follows where an option is known to have a value.
-- Assumes nothing.
use Rattle.std.specs.Prelude.{◌≡◌, Some, None}

pub some-injective : {A : Type 0} (x y : A) → Some x ≡ Some y → x ≡ y
some-injective x y e = cc

pub none-ne-some : {A : Type 0} (x : A) → None ≡ Some x → ⊥
none-ne-some x e = cc
