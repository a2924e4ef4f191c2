pub mod OneFront
pub mod Fronted
pub mod FormMeans
