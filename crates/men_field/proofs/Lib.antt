pub mod Adding
pub mod Belonging
pub mod Shown
pub mod RankForm
