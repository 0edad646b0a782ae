use native.Mathlib.Omega.{arith}
use Rattle.model.specs.Layout.{sizes_of}
use Rattle.load.proofs.sizes.read_sizes.Goals as goal

pub returns : goal.returns
unfolding sizes_of
returns c = record { is = λ i. record { terms = c.wide.ensures i; expressions = c.wide-2.ensures i; facts = c.wide-3.ensures i; actions = c.wide-4.ensures i; globals = c.wide-5.ensures i; functions = c.wide-6.ensures i; primitives = c.wide-7.ensures i; rows = c.wide-8.ensures i; normalisers = c.wide-9.ensures i; rules = c.wide-10.ensures i; proofs = c.wide-11.ensures i; pool = c.wide-12.ensures i }; small = record { terms = omega (arith, c.wide.ensures, c.shared_slice_known-1.given 0); expressions = omega (arith, c.wide-2.ensures, c.shared_slice_known-1.given 1); facts = omega (arith, c.wide-3.ensures, c.shared_slice_known-1.given 2); actions = omega (arith, c.wide-4.ensures, c.shared_slice_known-1.given 3); functions = omega (arith, c.wide-6.ensures, c.shared_slice_known-1.given 5); primitives = omega (arith, c.wide-7.ensures, c.shared_slice_known-1.given 6); rows = omega (arith, c.wide-8.ensures, c.shared_slice_known-1.given 7); normalisers = omega (arith, c.wide-9.ensures, c.shared_slice_known-1.given 8); rules = omega (arith, c.wide-10.ensures, c.shared_slice_known-1.given 9); proofs = omega (arith, c.wide-11.ensures, c.shared_slice_known-1.given 10); pool = omega (arith, c.wide-12.ensures, c.shared_slice_known-1.given 11) } }
