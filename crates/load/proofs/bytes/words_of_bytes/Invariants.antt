use Rattle.std.proofs.Common.{◌≡◌, ◌+◌, ◌*◌, length, drop}
use Rattle.std.specs.Slice.Iter.{chunks_exact_rest, chunks_exact_size}
use lib.Seq.{paste}
use Rattle.model.specs.Host.{words_of}
use Rattle.load.proofs.bytes.words_of_bytes.Given as goal

abbrev pub invariant-loop-i : goal.invariant-loop-i
invariant-loop-i l = record {
  four : chunks_exact_size l.i-iterator.iter ≡ 4;
  left : 4 * l.i-iterator.count + length (chunks_exact_rest l.i-iterator.iter) ≡ length l.bytes;
  rest : drop l.i-iterator.count (words_of l.bytes) ≡ words_of (chunks_exact_rest l.i-iterator.iter);
  words : l.words ≡ paste l.initial.words 0 (words_of l.bytes) l.i-iterator.count;
  long : length l.words ≡ length l.initial.words;
}
