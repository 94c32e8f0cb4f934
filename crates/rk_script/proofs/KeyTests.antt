-- What reading a key or a suffix answers, by their tests.
use Rattle.std.proofs.Common.{◌≡◌, ℕ, Bool, true, false, cond, List, Decides, Ok, Err, refl, subst}
use Rattle.rk_key.specs.Keys.{IsSuffix, IsKey}
use Rattle.rk_key.specs.KeyTests.{is_suffix, is_key}
use Rattle.rk_key.specs.Refusals.{IsRefusalOf}
use Rattle.rk_key.specs.declared.error.KeyError.{KeyError}
use Rattle.rk_key.specs.declared.error.KeyError.TheVariants.{BadKey}
use Rattle.rk_key.specs.declared.error.Which.{Which}
use Rattle.rk_key.specs.declared.error.Which.TheVariants.{Key, Suffix}
use Rattle.rk_key.proofs.KeyTests.{is_suffix-Decides, is_key-Decides}
use Rattle.rk_script.specs.declared.line.Why.{Why}
use Rattle.rk_script.specs.declared.line.Why.TheVariants as why

false_from_not : (b : Bool) → ¬ (b ≡ true) → b ≡ false
false_from_not true fails = absurd (fails refl)
false_from_not false fails = refl

given : {A P : Type 0} (b : Bool) (x y : A) (why : Why) → Decides b P → P → x ≡ y → cond b (Ok y) (Err why) ≡ Ok x
given b x y why decides holds same = rw (decides.1 holds, same) refl

withheld : {A P : Type 0} (b : Bool) (y : A) (why : Why) → Decides b P → ¬ P → cond b (Ok y) (Err why) ≡ Err why
withheld b y why decides fails = rw (false_from_not b (λ e. fails (decides.0 e))) refl

pub some_key : (bytes key : List ℕ) → IsKey bytes → key ≡ bytes → cond (is_key bytes) (Ok bytes) (Err why.Key) ≡ Ok key
some_key bytes key is same = given _ _ _ _ (is_key-Decides bytes) is same

pub some_suffix : (bytes suffix : List ℕ) → IsSuffix bytes → suffix ≡ bytes → cond (is_suffix bytes) (Ok bytes) (Err why.Suffix) ≡ Ok suffix
some_suffix bytes suffix is same = given _ _ _ _ (is_suffix-Decides bytes) is same

-- what a refusal of the bytes says of them
refused : (Is : List ℕ → Type 0) (wanted : Which) (bytes : List ℕ) (error : KeyError) (which : Which) (at : ℕ) → IsRefusalOf Is wanted bytes error → error ≡ BadKey which at → ¬ Is bytes
refused Is wanted bytes error which at says is = (let said = subst (IsRefusalOf Is wanted bytes) is says in said.1.none)

pub no_key : (bytes : List ℕ) (error : KeyError) (which : Which) (at : ℕ) → IsRefusalOf IsKey Key bytes error → error ≡ BadKey which at → cond (is_key bytes) (Ok bytes) (Err why.Key) ≡ Err why.Key
no_key bytes error which at says is =
    withheld _ bytes _ (is_key-Decides bytes) (refused IsKey Key bytes error which at says is)

pub no_suffix : (bytes : List ℕ) (error : KeyError) (which : Which) (at : ℕ) → IsRefusalOf IsSuffix Suffix bytes error → error ≡ BadKey which at → cond (is_suffix bytes) (Ok bytes) (Err why.Suffix) ≡ Err why.Suffix
no_suffix bytes error which at says is =
    withheld _ bytes _ (is_suffix-Decides bytes) (refused IsSuffix Suffix bytes error which at says is)
