use Rattle.std.proofs.Common.{◌≡◌, ℕ, List, [], ◌∷◌, ◌++◌, append_assoc, refl, Bool, true, false, ◌∙◌, ap}
use Rattle.byteorder.specs.Endian.{big_bytes}
use Rattle.std.specs.Int.{from_bool}
use Rattle.rk_manifest.specs.Versions.{flag}
use Rattle.rk_pieces.specs.Pieces.{short}
use Rattle.rk_manifest.proofs.encode.push_table.Goals as goal

joined : (old a b c d w x y z e : List ℕ) (f : ℕ) → w ≡ old ++ a → x ≡ w ++ b → y ≡ x ++ c → z ≡ y ++ d → e ≡ z ++ f ∷ []
    → e ≡ old ++ (a ++ b ++ c ++ d ++ f ∷ [])
joined old a b c d w x y z e f p q r s t = rw (t, s, r, q, p) (simp append_assoc)

flag_is : (b : Bool) → from_bool b ≡ flag b
flag_is true = refl
flag_is false = refl

pub returns : goal.returns
returns c =
    let table = c.args.table.now in
    let all = joined c.args.out.now.items (big_bytes 8 table.file) (big_bytes 8 table.size) (short table.lo) (short table.hi) c.push_number.new.out.items c.push_number-2.new.out.items c.push_key.new.out.items c.push_key-2.new.out.items c.push.new.self.items c.from.result c.in_ok-push_number.ensures c.in_ok-push_number-2.ensures c.in_ok-push_key.ensures c.in_ok-push_key-2.ensures c.in_ok-push.ensures.items in
    all ∙ ap (λ (f : ℕ). c.args.out.now.items ++ (big_bytes 8 table.file ++ big_bytes 8 table.size ++ short table.lo ++ short table.hi ++ f ∷ [])) (c.from.ensures ∙ flag_is table.closed)
