use Rattle.std.proofs.Common.{◌≡◌, ℕ, ◌++◌, drop, replicate, sym, ap, ◌∙◌, arith}
use Rattle.std.specs.Prelude.{◌==◌}
use Rattle.std.specs.List.{list_all}
use Rattle.std.proofs.lemmas.Bool.{false≢true}
use Rattle.byteorder.specs.Endian.{big_bytes, big_number}
use Rattle.rk_manifest.specs.Versions.{version_of}
use Rattle.rk_pieces.proofs.Fields.{IsBytes}
use Rattle.rk_manifest.proofs.Bare.{IsBare, IsShaped, bare_again, bare_takes, bare_shape, shaped, rest_of, none_from}
use Rattle.rk_manifest.proofs.decode.numbers.Goals as goal
use Rattle.rk_manifest.proofs.decode.numbers.Goals.{then-bytes-ne-BARE_LEN-via-then-bytes-ne-BARE_LEN, then-bytes-ne-BARE_LEN-via-else-bytes-ne-BARE_LEN+then-not-are_zeros}

pub returns-then-bytes-ne-BARE_LEN : goal.returns-then-bytes-ne-BARE_LEN
returns-then-bytes-ne-BARE_LEN c =
    let bytes = c.args.bytes.now in
    let fits : IsBytes bytes = λ i. omega (arith, c.type_inv.bytes i) in
    none_from (version_of bytes) (λ v e.
    let b = bare_takes bytes v fits e in
    let s = bare_shape bytes v.next_file v.flushed_upto b.0 in
    elim c.then-bytes-ne-BARE_LEN.branch [
      | then-bytes-ne-BARE_LEN-via-then-bytes-ne-BARE_LEN w ↦ absurd (omega (arith, s.0.len, w.if-bytes-ne-BARE_LEN.true))
      | then-bytes-ne-BARE_LEN-via-else-bytes-ne-BARE_LEN+then-not-are_zeros w ↦
          let zeros = w.are_zeros.ensures ∙ ap (list_all (λ b. b == 0)) (rest_of 16 bytes) ∙ s.0.zeros in
          absurd (false≢true (sym w.if-not-are_zeros.true ∙ zeros))
    ])

pub returns-then-next_file-lt-FIRST_TABLE : goal.returns-then-next_file-lt-FIRST_TABLE
returns-then-next_file-lt-FIRST_TABLE c =
    let bytes = c.args.bytes.now in
    let fits : IsBytes bytes = λ i. omega (arith, c.type_inv.bytes i) in
    none_from (version_of bytes) (λ v e.
    let b = bare_takes bytes v fits e in
    let s = bare_shape bytes v.next_file v.flushed_upto b.0 in
    let n : c.read_u64-next_file.result ≡ v.next_file = c.read_u64-next_file.ensures ∙ s.1 in
    let f : c.read_u64-flushed_upto.result ≡ v.flushed_upto = c.read_u64-flushed_upto.ensures ∙ ap (big_number 8) (rest_of 8 bytes) ∙ s.2 in
    absurd (omega (arith, c.then-next_file-lt-FIRST_TABLE.either, n, f, b.0.least, b.0.next_file, b.0.flushed_upto)))

pub returns : goal.returns
returns c =
    let bytes = c.args.bytes.now in
    let fits : IsBytes bytes = λ i. omega (arith, c.type_inv.bytes i) in
    let shape : IsShaped bytes = record {
      len = omega (arith, c.if-bytes-ne-BARE_LEN.false);
      zeros = sym (ap (list_all (λ b. b == 0)) (rest_of 16 bytes)) ∙ sym c.are_zeros.ensures ∙ c.if-not-are_zeros.false;
    } in
    let n : big_number 8 bytes ≡ c.read_u64-next_file.result = sym c.read_u64-next_file.ensures in
    let f : big_number 8 (drop 8 bytes) ≡ c.read_u64-flushed_upto.result = sym (c.read_u64-flushed_upto.ensures ∙ ap (big_number 8) (rest_of 8 bytes)) in
    let bare : IsBare bytes c.read_u64-next_file.result c.read_u64-flushed_upto.result = record {
      spelled = shaped bytes fits shape ∙ ap (λ (k : ℕ). big_bytes 8 k ++ (big_bytes 8 (big_number 8 (drop 8 bytes)) ++ replicate 16 0)) n ∙ ap (λ (k : ℕ). big_bytes 8 c.read_u64-next_file.result ++ (big_bytes 8 k ++ replicate 16 0)) f;
      least = c.if-next_file-lt-FIRST_TABLE.false;
      next_file = c.if-next_file-ge-END.false;
      flushed_upto = c.if-flushed_upto-ge-END.false;
    } in
    sym (bare_again bytes c.read_u64-next_file.result c.read_u64-flushed_upto.result bare)
