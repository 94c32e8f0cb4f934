use Rattle.std.proofs.Common.{◌≡◌, ◌++◌, take}
use Rattle.rk_script.specs.Words.{escaped_bytes}
use Rattle.rk_script.proofs.escape.push_each.Given as goal

abbrev pub invariant-loop-byte : goal.invariant-loop-byte
invariant-loop-byte l = l.out.items ≡ l.fn.out.items ++ escaped_bytes (take l.byte-index l.bytes)
