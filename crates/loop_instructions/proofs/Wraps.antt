-- Results that wrap.
pub use Rattle.std.proofs.lemmas.Int.{wraps}
