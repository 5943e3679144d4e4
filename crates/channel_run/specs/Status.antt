-- Which counts of faults rose, by the answer.
use Rattle.std.specs.Prelude.{◌≡◌, ℕ, ◌⊎◌}
use Rattle.outside.specs.Causes.{Rises}
use Rattle.outside.specs.declared.status.Status.{Status}
use Rattle.outside.specs.declared.status.Status.TheVariants.{Done, Refused, ChannelError, BadScript, ReadFault, WriteFault, DoorFault, BadWords, NoMemory, NotYet}

-- the counts of the files, the input and the sink, each before the call and after it
pub record Counts : Type 0 where
  pub files : ℕ
  pub input : ℕ
  pub sink : ℕ

-- none of the three rose
abbrev pub NoneRose : Counts → Counts → Type 0
NoneRose before now = (now.files ≡ before.files) × (now.input ≡ before.input) × (now.sink ≡ before.sink)

-- a read fault comes where the count of the files or of the input rose, a write fault where that of the sink did, and no other
-- answer where one rose; the channel has no error and the door no fault
abbrev pub IsCaused : Status → Counts → Counts → Type 0
IsCaused Done before now = NoneRose before now
IsCaused (Refused fault) before now = NoneRose before now
IsCaused ChannelError before now = ⊥
IsCaused (BadScript line) before now = NoneRose before now
IsCaused ReadFault before now =
    ((Rises before.files now.files × (now.input ≡ before.input)) ⊎ ((now.files ≡ before.files) × Rises before.input now.input)) × (now.sink ≡ before.sink)
IsCaused WriteFault before now = (now.files ≡ before.files) × (now.input ≡ before.input) × Rises before.sink now.sink
IsCaused DoorFault before now = ⊥
IsCaused BadWords before now = NoneRose before now
IsCaused NoMemory before now = NoneRose before now
IsCaused NotYet before now = NoneRose before now
