-- What building a parcel gives: the refusals 1, 2, 5, 6, 13 in this order, else the parcel with the next counter.
-- Assumes nothing.
use Rattle.std.specs.Prelude.{◌≡◌, true, List, ℕ, ◌+◌, ◌≤◌, eqb, leb, length}
use Rattle.bits.specs.Pick.{pick}
use Rattle.scheme.specs.Machine.{Sealed}
use Rattle.scheme.specs.Scheme.{Scheme, all_count}
use Rattle.instances.specs.Schemes.{known}
use Rattle.isap.specs.declared.Answer.{Answer}
use Rattle.parcel.specs.declared.Fields.{Fields}
use Rattle.parcel.specs.declared.Built.{Built}
use Rattle.parcel.specs.Layout.{header_of, nonce_of, parcel_of, most_carried, most_counter}

-- the fields of the parcel after the last one
abbrev pub next_fields : (instance station last : ℕ) → (text : List ℕ) → Fields
next_fields instance station last text = record { instance = instance; station = station; counter = last + 1; text = length text }

module _ (of : ℕ → Scheme) where
  -- by the instance, the lengths of key, text and output, and the last counter; 0 if there is none
  unfoldable pub build_refusal : (instance key m out last : ℕ) → ℕ
  build_refusal instance key m out last =
      pick (known instance) (pick (eqb key (of instance).key_bytes) (pick (leb m most_carried) (pick (eqb out (m + 31)) (pick (eqb last most_counter) 13 0) 6) 5) 2) 1

  -- a text sealed under a parcel's nonce, its header the associated data
  unfoldable pub sealed_under : Fields → (key text : List ℕ) → Sealed
  sealed_under f key text = (of f.instance).seal key (nonce_of f.station f.counter) (header_of f) text

  module _ (instance : ℕ) (key : List ℕ) (station last : ℕ) (text out : List ℕ) where
    abbrev pub refusal : ℕ
    refusal = build_refusal instance (length key) (length text) (length out) last

    unfoldable pub built_of : Built
    built_of =
        pick (eqb refusal 0)
        (record { number = 0; rounds = all_count (of instance) true 15 (length text); counter = last + 1 })
        (record { number = refusal; rounds = 0; counter = last })

    unfoldable pub built_out : List ℕ
    built_out =
        let f = next_fields instance station last text in
        pick (eqb refusal 0) (parcel_of f (sealed_under f key text)) out

  -- ---- for the code that writes: what must hold where nothing is refused, and what it leaves

  pub record CanBuild (instance key m out : ℕ) : Type 0 where
    pub is_known : known instance ≡ true
    pub key_long : key ≡ (of instance).key_bytes
    pub text_limit : m ≤ most_carried
    pub out_long : out ≡ m + 31

  abbrev pub PutsParcel : Fields → (key text : List ℕ) → Answer → (out' : List ℕ) → Type 0
  PutsParcel f key text r out' =
      (r ≡ record { number = 0; rounds = all_count (of f.instance) true 15 (length text) }) × (out' ≡ parcel_of f (sealed_under f key text))
