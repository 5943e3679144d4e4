-- What copying a value out answers.
use Rattle.std.specs.Prelude.{ℕ, Result, Ok, Err}
use Rattle.chan_values.specs.declared.portable.Portable.{Portable}
use Rattle.chan_values.specs.View.{tree_of}
use Rattle.copy_meaning.specs.Unfolding.{Form}
use Rattle.copy_meaning.specs.Answers as a
use Rattle.copy_meaning.specs.Answers.{Answers}
use Rattle.brs_copy.specs.declared.leave.CopyFault.{CopyFault}
use Rattle.brs_copy.specs.declared.leave.CopyFault.TheVariants.{TooDeep, TooLarge, NoMemory}

-- the copy is what the value unfolds to, and a fault is that of its unfolding
abbrev pub Copies : {A : Type 0} → (A → Form A) → (bound most : ℕ) → A → Result Portable CopyFault → Type 0
Copies form bound most v (Ok p) = Answers form bound most v (a.Copy (tree_of p))
Copies form bound most v (Err TooDeep) = Answers form bound most v a.TooDeep
Copies form bound most v (Err TooLarge) = Answers form bound most v a.TooLarge
Copies form bound most v (Err NoMemory) = Unit {0}
