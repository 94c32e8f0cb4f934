use Rattle.std.proofs.Common.{◌≡◌, ◌∙◌, ap, length, unwrap_or}
use Rattle.rk_key.specs.Keys.{prefix}
use Rattle.rk_key.proofs.Parts.{place_or_length, take_prefix, drop_prefix}
use Rattle.rk_key.proofs.order.split.Goals as goal

pub returns : goal.returns
returns c =
    let bytes = c.args.bytes.now in
    let found : c.unwrap_or.result ≡ unwrap_or c.first_at_sign.result (length bytes) = c.unwrap_or.ensures in
    let place : c.unwrap_or.result ≡ length (prefix bytes) =
    found ∙ ap (λ place. unwrap_or place (length bytes)) c.first_at_sign.ensures ∙ place_or_length bytes in
    record {
      place = place;
      before = rw place (take_prefix bytes);
      after = rw place (drop_prefix bytes);
    }
