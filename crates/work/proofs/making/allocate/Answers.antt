use mathlib.Core.Path.{sym, ◌∙◌, ◌≡◌, ap}
use mathlib.Core.Bool.{true}
use Prim.Native.Nat.{ℕ}
use native.Mathlib.Omega.{arith}
use borrow.Author.Tests.{lt-ltb, le-ltb}
use Rattle.lists.specs.Lists.{◌and◌}
use Rattle.lists.specs.Parts.{word}
use Rattle.lists.proofs.Tests.{and_left, and_right}
use Rattle.volume.specs.Names.{descriptor, user_of}
use Rattle.volume.specs.Directory.{code_allowed}
use Rattle.volume.proofs.EntryFields.{descriptor-length}
use Rattle.files.specs.Rights.{has_right}
use Rattle.work.specs.Refusals.{ruled}
use Rattle.work.specs.Volumes.{allocate_rules, sized, exists}
use Rattle.work.specs.Code.Deeds.{done_by, allocate_deed, place_deed}
use Rattle.std.specs.Prelude.{is_some}
use Rattle.work.proofs.Searches.{is_some_found}
use Rattle.work.proofs.making.allocate.Goals as goal

pub returns-then-not-descriptor : goal.returns-then-not-descriptor
unfolding allocate_deed allocate_rules done_by ruled
returns-then-not-descriptor c = rw (sym c.descriptor.ensures ∙ c.if-not-descriptor.true)

pub returns-then-kind-gt1 : goal.returns-then-kind-gt1
unfolding allocate_deed allocate_rules done_by ruled
returns-then-kind-gt1 c =
    let described : descriptor c.args.desc.now ≡ true =
    sym c.descriptor.ensures ∙ c.if-not-descriptor.false in
    rw (described, lt-ltb _ _ c.if-kind-gt1.true)

pub user_of-user-requires : goal.user_of-user-requires
user_of-user-requires c =
    let described : descriptor c.args.desc.now ≡ true =
    sym c.descriptor.ensures ∙ c.if-not-descriptor.false in
    omega (arith, descriptor-length _ described)

pub returns-then-not-are_in_range : goal.returns-then-not-are_in_range
unfolding allocate_deed allocate_rules done_by ruled
returns-then-not-are_in_range c =
    let described : descriptor c.args.desc.now ≡ true =
    sym c.descriptor.ensures ∙ c.if-not-descriptor.false in
    let ranged : (let a = c.args in c.are_in_range.result ≡ sized a.kind a.size a.«record» and code_allowed (user_of a.desc.now) a.read_code) =
    c.are_in_range.ensures ∙ (let a = c.args in ap (λ (n : ℕ). sized a.kind a.size a.«record» and code_allowed n a.read_code) c.user_of-user.ensures.0) in
    rw (described, le-ltb _ _ c.if-kind-gt1.false, sym ranged ∙ c.if-not-are_in_range.true)

pub returns-then-not-has_right : goal.returns-then-not-has_right
unfolding allocate_deed allocate_rules done_by ruled
returns-then-not-has_right c =
    let described : descriptor c.args.desc.now ≡ true =
    sym c.descriptor.ensures ∙ c.if-not-descriptor.false in
    let ranged : (let a = c.args in c.are_in_range.result ≡ sized a.kind a.size a.«record» and code_allowed (user_of a.desc.now) a.read_code) =
    c.are_in_range.ensures ∙ (let a = c.args in ap (λ (n : ℕ). sized a.kind a.size a.«record» and code_allowed n a.read_code) c.user_of-user.ensures.0) in
    let fits : (let a = c.args in sized a.kind a.size a.«record» and code_allowed (user_of a.desc.now) a.read_code ≡ true) =
    sym ranged ∙ c.if-not-are_in_range.false in
    let righted : has_right c.args.caller (word c.args.desc.now 0) ≡ c.has_right.result =
    sym (c.has_right.ensures ∙ ap (has_right c.args.caller) c.user_of-user.ensures.0) in
    rw (described, le-ltb _ _ c.if-kind-gt1.false, fits, righted ∙ c.if-not-has_right.true)

pub returns-then-is_some : goal.returns-then-is_some
unfolding allocate_deed allocate_rules exists done_by ruled
returns-then-is_some c =
    let described : descriptor c.args.desc.now ≡ true =
    sym c.descriptor.ensures ∙ c.if-not-descriptor.false in
    let ranged : (let a = c.args in c.are_in_range.result ≡ sized a.kind a.size a.«record» and code_allowed (user_of a.desc.now) a.read_code) =
    c.are_in_range.ensures ∙ (let a = c.args in ap (λ (n : ℕ). sized a.kind a.size a.«record» and code_allowed n a.read_code) c.user_of-user.ensures.0) in
    let fits : (let a = c.args in sized a.kind a.size a.«record» and code_allowed (user_of a.desc.now) a.read_code ≡ true) =
    sym ranged ∙ c.if-not-are_in_range.false in
    let righted : has_right c.args.caller (word c.args.desc.now 0) ≡ c.has_right.result =
    sym (c.has_right.ensures ∙ ap (has_right c.args.caller) c.user_of-user.ensures.0) in
    rw (
      described,
      le-ltb _ _ c.if-kind-gt1.false,
      fits,
      righted ∙ c.if-not-has_right.false,
      sym (is_some_found _ _ c.requires.0 _) ∙ ap is_some (sym c.find.ensures) ∙ sym c.is_some.ensures ∙ c.if-is_some.true,
    )

pub place-requires : goal.place-requires
unfolding exists
place-requires c =
    let described : descriptor c.args.desc.now ≡ true =
    sym c.descriptor.ensures ∙ c.if-not-descriptor.false in
    let ranged : (let a = c.args in c.are_in_range.result ≡ sized a.kind a.size a.«record» and code_allowed (user_of a.desc.now) a.read_code) =
    c.are_in_range.ensures ∙ (let a = c.args in ap (λ (n : ℕ). sized a.kind a.size a.«record» and code_allowed n a.read_code) c.user_of-user.ensures.0) in
    let fits : (let a = c.args in sized a.kind a.size a.«record» and code_allowed (user_of a.desc.now) a.read_code ≡ true) =
    sym ranged ∙ c.if-not-are_in_range.false in
    let new = sym (is_some_found _ _ c.requires.0 _) ∙ ap is_some (sym c.find.ensures) ∙ sym c.is_some.ensures ∙ c.if-is_some.false in
    (c.requires.0, c.requires.1, described, new, c.if-kind-gt1.false, and_left _ _ fits, and_right _ _ fits)

pub returns : goal.returns
unfolding allocate_deed place_deed allocate_rules exists done_by ruled
returns c =
    let described : descriptor c.args.desc.now ≡ true =
    sym c.descriptor.ensures ∙ c.if-not-descriptor.false in
    let ranged : (let a = c.args in c.are_in_range.result ≡ sized a.kind a.size a.«record» and code_allowed (user_of a.desc.now) a.read_code) =
    c.are_in_range.ensures ∙ (let a = c.args in ap (λ (n : ℕ). sized a.kind a.size a.«record» and code_allowed n a.read_code) c.user_of-user.ensures.0) in
    let fits : (let a = c.args in sized a.kind a.size a.«record» and code_allowed (user_of a.desc.now) a.read_code ≡ true) =
    sym ranged ∙ c.if-not-are_in_range.false in
    let righted : has_right c.args.caller (word c.args.desc.now 0) ≡ c.has_right.result =
    sym (c.has_right.ensures ∙ ap (has_right c.args.caller) c.user_of-user.ensures.0) in
    c.place.ensures
    ∙ rw (
      described,
      le-ltb _ _ c.if-kind-gt1.false,
      fits,
      righted ∙ c.if-not-has_right.false,
      sym (is_some_found _ _ c.requires.0 _) ∙ ap is_some (sym c.find.ensures) ∙ sym c.is_some.ensures ∙ c.if-is_some.false,
    )
