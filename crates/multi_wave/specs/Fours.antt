-- One thing of each of four threads.
use Rattle.multi_wave.specs.declared.each.Each.{Each}

abbrev pub Fourfold : Type 0 → Type 0
Fourfold T = Each T T T T

-- each of the four is so
abbrev pub EachIs : {T : Type 0} → (T → Type 0) → Fourfold T → Type 0
EachIs Is f = Is f.first × Is f.second × Is f.third × Is f.fourth

-- each of the four is so to that of its thread
abbrev pub EachTo : {S T : Type 0} → (S → T → Type 0) → Fourfold S → Fourfold T → Type 0
EachTo To f g = To f.first g.first × To f.second g.second × To f.third g.third × To f.fourth g.fourth
