use Rattle.std.proofs.Common.{arith, length, refl, sym, subst}
use Rattle.std.proofs.lemmas.List.{length-map}
use Rattle.poets_syntax.specs.Contract as C
use Rattle.poets_calculus.specs.Alike.{Alike}
use Rattle.poets_cons.specs.declared.classes.Classes.{Classes}
use Rattle.poets_cons.specs.Notes.{noted}
use Rattle.poets_cons.specs.Table.{contract_at}
use Rattle.poets_cons.specs.code.Bags.{bag_at}
use Rattle.poets_cons.specs.code.Classes.{Parallel, shape_of, shapes_of, shape_at, class_contract, contract_of_shape, AreShapes, AreClasses, IsShapeAt}
use Rattle.poets_cons.proofs.Built.{longer_twice}
use Rattle.poets_cons.proofs.Classing.{more_classes, inserted_grows, inserted_shapes, inserted_class, noted_any, class_any, later_class, parallel_shape, known_stays, shapes_stay, shapes_grow}
use Rattle.poets_cons.proofs.classes.+class_of.Goals as goal

pub class_of-returns-in-Some-clause-class : goal.class_of-returns-in-Some-clause-class
class_of-returns-in-Some-clause-class t c = (c.requires.known.classes.rows c.args.place c.in-Some.class (sym c.in-Some.ensures)).1

pub class_of-returns-clause-shapes : goal.class_of-returns-clause-shapes
class_of-returns-clause-shapes t c =
    let x = c.in_ok-shape.ensures in
    let mid = c.shape_of.new.known in
    longer_twice (shapes_of c.args.known.now) (shapes_of mid) _ x.shapes
    (inserted_grows mid.bags.keys mid.shapes.keys c.insert_full.new.self.keys c.in_ok-shape.shape x.known.classes.right x.shape.0 c.in-Ok.ensures.keys)

pub class_of-returns-clause-known : goal.class_of-returns-clause-known
class_of-returns-clause-known t c =
    let x = c.in_ok-shape.ensures in
    let nodes = c.args.nodes.now in
    let mid = c.shape_of.new.known in
    let g = inserted_grows mid.bags.keys mid.shapes.keys c.insert_full.new.self.keys c.in_ok-shape.shape x.known.classes.right x.shape.0 c.in-Ok.ensures.keys in
    let right = inserted_shapes mid.bags.keys mid.shapes.keys c.insert_full.new.self.keys c.in_ok-shape.shape x.known.classes.right x.shape.0 c.in-Ok.ensures.keys in
    let more = more_classes nodes (shapes_of mid) g.0 (noted mid.classes) x.known.classes (subst AreShapes g.1 right) in
    let all = subst (λ l. AreClasses nodes l (noted mid.classes)) (sym g.1) more in
    let stored = c.in-Ok.ensures.stored in
    let has = inserted_class mid.bags.keys mid.shapes.keys c.insert_full.new.self.keys c.in_ok-shape.shape x.known.classes.right x.shape.0 c.in-Ok.ensures.keys c.in-Ok.class
    (contract_at nodes c.args.place) stored.0 stored.1 stored.2 x.shape.1 in
    let classes = noted_any c.note.result nodes _ mid.classes c.note.new.self c.args.place c.in-Ok.class all c.requires.within has c.note.ensures.notes c.note.ensures.err in
    record { classes = classes; bags = x.known.bags; distinct = c.insert_full.ensures.unique }

pub class_of-returns-clause-class : goal.class_of-returns-clause-class
class_of-returns-clause-class t c =
    let x = c.in_ok-shape.ensures in
    let mid = c.shape_of.new.known in
    let stored = c.in-Ok.ensures.stored in
    let has = inserted_class mid.bags.keys mid.shapes.keys c.insert_full.new.self.keys c.in_ok-shape.shape x.known.classes.right x.shape.0 c.in-Ok.ensures.keys c.in-Ok.class
    (contract_at c.args.nodes.now c.args.place) stored.0 stored.1 stored.2 x.shape.1 in
    class_any c.note.result _ c.in-Ok.class c.note.ensures.row has

pub shape_of-returns-in_err-b-in-Plus-clause-shapes : goal.shape_of-returns-in_err-b-in-Plus-clause-shapes
shape_of-returns-in_err-b-in-Plus-clause-shapes t c =
    longer_twice (shapes_of c.args.known.now) (shapes_of c.class_of-in-Plus.new.known) _ c.in_ok-a-in-Plus.ensures.shapes c.class_of-in-Plus-2.ensures.shapes

pub shape_of-returns-in_ok-b-in-Plus-clause-shapes : goal.shape_of-returns-in_ok-b-in-Plus-clause-shapes
shape_of-returns-in_ok-b-in-Plus-clause-shapes t c =
    longer_twice (shapes_of c.args.known.now) (shapes_of c.class_of-in-Plus.new.known) _ c.in_ok-a-in-Plus.ensures.shapes c.class_of-in-Plus-2.ensures.shapes

pub shape_of-returns-in_err-b-in-Seq-clause-shapes : goal.shape_of-returns-in_err-b-in-Seq-clause-shapes
shape_of-returns-in_err-b-in-Seq-clause-shapes t c =
    longer_twice (shapes_of c.args.known.now) (shapes_of c.class_of-in-Seq.new.known) _ c.in_ok-a-in-Seq.ensures.shapes c.class_of-in-Seq-2.ensures.shapes

pub shape_of-returns-in_ok-b-in-Seq-clause-shapes : goal.shape_of-returns-in_ok-b-in-Seq-clause-shapes
shape_of-returns-in_ok-b-in-Seq-clause-shapes t c =
    longer_twice (shapes_of c.args.known.now) (shapes_of c.class_of-in-Seq.new.known) _ c.in_ok-a-in-Seq.ensures.shapes c.class_of-in-Seq-2.ensures.shapes

pub shape_of-returns-in_err-b-in-Par-clause-shapes : goal.shape_of-returns-in_err-b-in-Par-clause-shapes
shape_of-returns-in_err-b-in-Par-clause-shapes t c =
    longer_twice (shapes_of c.args.known.now) (shapes_of c.class_of-in-Par.new.known) _ c.in_ok-a-in-Par.ensures.shapes c.class_of-in-Par-2.ensures.shapes

pub shape_of-returns-in-Success-clause-shape : goal.shape_of-returns-in-Success-clause-shape
shape_of-returns-in-Success-clause-shape t c = ((tt, tt), rw (c.node_at.ensures.contract, c.in-Success.is) Alike.Success)

pub shape_of-returns-in-Failure-clause-shape : goal.shape_of-returns-in-Failure-clause-shape
shape_of-returns-in-Failure-clause-shape t c = ((tt, tt), rw (c.node_at.ensures.contract, c.in-Failure.is) Alike.Failure)

pub shape_of-returns-in_ok-when-in-Transmit-clause-shape : goal.shape_of-returns-in_ok-when-in-Transmit-clause-shape
shape_of-returns-in_ok-when-in-Transmit-clause-shape t c =
    let h = c.in_ok-then-in-Transmit.ensures.class in
    ((tt, h.0), rw (c.node_at.ensures.contract, c.in-Transmit.is, ← c.in_ok-when-in-Transmit.ensures) (Alike.Transmit h.1))

pub shape_of-returns-in_ok-b-in-Plus-clause-shape : goal.shape_of-returns-in_ok-b-in-Plus-clause-shape
shape_of-returns-in_ok-b-in-Plus-clause-shape t c =
    let mid = c.class_of-in-Plus.new.known in
    let y = c.in_ok-b-in-Plus.ensures in
    let x = later_class (shapes_of mid) (shapes_of c.class_of-in-Plus-2.new.known) y.shapes (contract_at c.args.nodes.now c.in-Plus.a) c.in_ok-a-in-Plus.a
    c.in_ok-a-in-Plus.ensures.class in
    ((tt, (x.0, y.class.0)), rw (c.node_at.ensures.contract, c.in-Plus.is) (Alike.Plus x.1 y.class.1))

pub shape_of-returns-in_ok-b-in-Seq-clause-shape : goal.shape_of-returns-in_ok-b-in-Seq-clause-shape
shape_of-returns-in_ok-b-in-Seq-clause-shape t c =
    let mid = c.class_of-in-Seq.new.known in
    let y = c.in_ok-b-in-Seq.ensures in
    let x = later_class (shapes_of mid) (shapes_of c.class_of-in-Seq-2.new.known) y.shapes (contract_at c.args.nodes.now c.in-Seq.a) c.in_ok-a-in-Seq.a
    c.in_ok-a-in-Seq.ensures.class in
    ((tt, (x.0, y.class.0)), rw (c.node_at.ensures.contract, c.in-Seq.is) (Alike.Seq x.1 y.class.1))

pub shape_of-returns-in_ok-args-in-App-clause-shape : goal.shape_of-returns-in_ok-args-in-App-clause-shape
shape_of-returns-in_ok-args-in-App-clause-shape t c =
    ((tt, tt), rw (c.node_at.ensures.contract, c.in-App.is, ← c.in_ok-args-in-App.ensures) Alike.App)

pub shape_of-bag_of_both-requires-clause-first : goal.shape_of-bag_of_both-requires-clause-first
shape_of-bag_of_both-requires-clause-first t c =
    let known = c.class_of-in-Par-2.new.known in
    let x = later_class (shapes_of c.class_of-in-Par.new.known) (shapes_of known) c.in_ok-b-in-Par.ensures.shapes (contract_at c.args.nodes.now c.in-Par.a)
    c.in_ok-a-in-Par.a c.in_ok-a-in-Par.ensures.class in
    omega (arith, x.0, length-map known.shapes.keys (shape_of known.bags.keys))

pub shape_of-returns-in_err-bag-in-Par-clause-known : goal.shape_of-returns-in_err-bag-in-Par-clause-known
shape_of-returns-in_err-bag-in-Par-clause-known t c =
    let x = c.bag_of_both.ensures in
    known_stays c.args.nodes.now c.class_of-in-Par-2.new.known _ c.in_ok-b-in-Par.ensures.known x.bags x.grows refl refl

pub shape_of-returns-in_err-bag-in-Par-clause-shapes : goal.shape_of-returns-in_err-bag-in-Par-clause-shapes
shape_of-returns-in_err-bag-in-Par-clause-shapes t c =
    let x = c.bag_of_both.ensures in
    let y = c.in_ok-b-in-Par.ensures in
    let known = c.class_of-in-Par-2.new.known in
    let new : Classes = record { bags = c.bag_of_both.new.bags; shapes = known.shapes; classes = known.classes } in
    let first = shapes_of c.args.known.now in
    shapes_grow c.args.nodes.now known new y.known x.bags x.grows refl refl first
    (longer_twice first (shapes_of c.class_of-in-Par.new.known) (shapes_of known) c.in_ok-a-in-Par.ensures.shapes y.shapes)

pub shape_of-returns-in_ok-bag-in-Par-clause-known : goal.shape_of-returns-in_ok-bag-in-Par-clause-known
shape_of-returns-in_ok-bag-in-Par-clause-known t c =
    let x = c.bag_of_both.ensures in
    known_stays c.args.nodes.now c.class_of-in-Par-2.new.known _ c.in_ok-b-in-Par.ensures.known x.bags x.grows refl refl

pub shape_of-returns-in_ok-bag-in-Par-clause-shapes : goal.shape_of-returns-in_ok-bag-in-Par-clause-shapes
shape_of-returns-in_ok-bag-in-Par-clause-shapes t c =
    let x = c.bag_of_both.ensures in
    let y = c.in_ok-b-in-Par.ensures in
    let known = c.class_of-in-Par-2.new.known in
    let new : Classes = record { bags = c.bag_of_both.new.bags; shapes = known.shapes; classes = known.classes } in
    let first = shapes_of c.args.known.now in
    shapes_grow c.args.nodes.now known new y.known x.bags x.grows refl refl first
    (longer_twice first (shapes_of c.class_of-in-Par.new.known) (shapes_of known) c.in_ok-a-in-Par.ensures.shapes y.shapes)

pub shape_of-returns-in_ok-bag-in-Par-clause-shape : goal.shape_of-returns-in_ok-bag-in-Par-clause-shape
shape_of-returns-in_ok-bag-in-Par-clause-shape t c =
    let nodes = c.args.nodes.now in
    let x = c.in_ok-bag-in-Par.ensures in
    let y = c.in_ok-b-in-Par.ensures in
    let known = c.class_of-in-Par-2.new.known in
    let new : Classes = record { bags = c.bag_of_both.new.bags; shapes = known.shapes; classes = known.classes } in
    let a = contract_at nodes c.in-Par.a in
    let b = contract_at nodes c.in-Par.b in
    let ks = bag_at new.bags.keys c.in_ok-bag-in-Par.bag in
    let first = later_class (shapes_of c.class_of-in-Par.new.known) (shapes_of known) y.shapes a c.in_ok-a-in-Par.a c.in_ok-a-in-Par.ensures.class in
    let p = parallel_shape (shapes_of known) y.known.classes.right a b c.in_ok-a-in-Par.a c.in_ok-b-in-Par.b ks first y.class x.bag.1 in
    let q = subst (λ shapes. IsShapeAt (shape_at shapes) (length shapes) (Parallel ks) × Alike (C.Par a b) (contract_of_shape (class_contract shapes) (Parallel ks)))
    (sym (shapes_stay nodes known new y.known x.bags x.grows refl refl)) p in
    (q.0, rw (c.node_at.ensures.contract, c.in-Par.is) q.1)
